use Rattle.std.proofs.Common.{List, Option, length, sym, ap, ◌∙◌, subst, arith}
use Rattle.ra_stamp.specs.declared.message.Message.{Message}
use Rattle.ra_bag.specs.Bag.{messages_in, HasEmpty}
use Rattle.ra_bag.proofs.Emptied.{closed_up, none_empty, no_more}
use Rattle.ra_bag.proofs.bag.remove.Goals as goal

-- the slots were closed up, and nothing is known of their places any more
pub returns-then-empty-most_empty-clause-kept : goal.returns-then-empty-most_empty-clause-kept
returns-then-empty-most_empty-clause-kept c =
    record {
      count = subst (λ (l : List (Option Message)). HasEmpty l 0) (sym c.close_up.ensures.items) (omega (arith, none_empty c.remove_slot.new.slots.items));
      told = λ known. absurd (known (ap length c.forget.ensures.numbers));
      shown = c.learn_anew.ensures;
    }

pub returns-then-empty-most_empty-clause-left : goal.returns-then-empty-most_empty-clause-left
returns-then-empty-most_empty-clause-left c =
    let before = c.remove_slot.ensures.left in
    record {
      items = ap messages_in c.close_up.ensures.items ∙ closed_up c.remove_slot.new.slots.items ∙ before.items;
      len = no_more _ _ _ c.close_up.ensures.len before.len;
      capacity = c.close_up.ensures.capacity ∙ before.capacity;
    }
