use Rattle.std.proofs.Common.{rules, ◌≡◌, ◌≤◌, List, Option, ◌∷◌, None, drop, length, sym, ap, ◌∙◌, subst, arith}
use Rattle.ra_stamp.specs.declared.message.Message.{Message}
use Rattle.ra_stamp.specs.contracts.message.MessagePartialEq.TheImpl.{eq-value}
use Rattle.ra_bag.specs.Bag.{messages_in}
use Rattle.ra_bag.specs.Filled.{KeepsShown}
use Rattle.ra_bag.specs.Places.{IsTold}
use Rattle.ra_bag.proofs.Emptied.{at_most, no_more}
use Rattle.ra_bag.proofs.bag.drop_leading.Goals as goal

pub overflow_sub-empty : goal.overflow_sub-empty
overflow_sub-empty c =
    let slots = c.loop.slots.items in
    let starts : slots ≡ None ∷ drop 1 slots = search rules in
    omega (arith, c.loop.invariant.kept.count, ap length starts, ap (λ (l : List (Option Message)). length (messages_in l)) starts, at_most (drop 1 slots))

pub loop-preserved : goal.loop-preserved
loop-preserved c =
    let slots = c.loop.slots.items in
    let held = c.loop.invariant in
    let starts : slots ≡ None ∷ drop 1 slots = search rules in
    let new = c.take_first.ensures.items in
    let some : 1 ≤ c.loop.empty = overflow_sub-empty c in
    record {
      kept = record {
        count = omega (
          arith,
          some,
          held.kept.count,
          ap length starts,
          ap (λ (l : List (Option Message)). length (messages_in l)) starts,
          ap length new,
          ap (λ (l : List (Option Message)). length (messages_in l)) new,
        );
        told = subst (λ (l : List (Option Message)). IsTold eq-value.it c.shift.new.self l) (sym new)
            (c.shift.ensures (drop 1 slots) (subst (λ (l : List (Option Message)). IsTold eq-value.it c.loop.places l) starts held.kept.told));
        shown = subst (KeepsShown c.drop_first.new.self) (sym new)
            (c.drop_first.ensures (drop 1 slots) (subst (KeepsShown c.loop.filled) starts held.kept.shown));
      };
      left = record {
        items = ap messages_in new ∙ sym (ap messages_in starts) ∙ held.left.items;
        len = no_more _ _ _ c.take_first.ensures.len held.left.len;
        capacity = c.take_first.ensures.capacity ∙ held.left.capacity;
      };
    }
