use Rattle.std.proofs.Common.{rules, ◌≡◌, ◌<◌, ◌+◌, ◌-◌, ◌++◌, ℕ, suc, true, List, Option, Some, None, length, get_or, set, take, drop, sym, ap, ◌∙◌, subst, true≢false, arith}
use Rattle.std.specs.Option.{is_some}
use Rattle.std.proofs.lemmas.List.{length-set, length-take-le, get_or_default}
use Rattle.ra_stamp.specs.declared.message.Message.{Message}
use Rattle.ra_bag.specs.Bag.{messages_in}
use Rattle.ra_bag.proofs.Emptied.{emptied, removed, last_removed, length_without, one_less, one_emptied, length_dropped, first_removed, not_empty, no_more}
use Rattle.ra_stamp.specs.contracts.message.MessagePartialEq.TheImpl.{eq-value}
use Rattle.ra_bag.specs.Filled.{KeepsShown}
use Rattle.ra_bag.specs.Places.{IsTold}
use Rattle.ra_bag.proofs.Counts.{shown_without_last}
use Rattle.ra_bag.proofs.Told.{told_without_last, first_emptied}
use Rattle.ra_bag.proofs.bag.remove_slot.Goals as goal

is_last : (c : goal.After-take_last) → c.args.slot + 1 ≡ length c.args.slots.now.items
is_last c = search rules

pub take_first-requires : goal.take_first-requires
take_first-requires c = not_empty c.args.slots.now.items c.args.slot c.requires.there.0

pub take_last-requires : goal.take_last-requires
take_last-requires c = not_empty c.args.slots.now.items c.args.slot c.requires.there.0

pub clear-requires : goal.clear-requires
clear-requires c = c.requires.there.0

pub take_out-requires : goal.take_out-requires
take_out-requires c = c.requires.there.0

has_message : (slots : List (Option Message)) (i : ℕ) (m : Message) → i < length slots → get_or slots i (Some m) ≡ Some m → is_some (get_or slots i None) ≡ true
has_message slots i m lt is = ap is_some (get_or_default slots i None (Some m) lt ∙ is)

taken_out : (c : goal.After-want_among_many) → messages_in c.take_out.new.slots.items ≡ messages_in (take c.args.slot c.args.slots.now.items) ++ messages_in (drop (suc c.args.slot) c.args.slots.now.items)
taken_out c = ap messages_in c.take_out.ensures.items ∙ removed c.args.slots.now.items c.args.slot

emptied_there : (c : goal.After-row_known-1) → messages_in c.clear.new.slots.items ≡ messages_in (take c.args.slot c.args.slots.now.items) ++ messages_in (drop (suc c.args.slot) c.args.slots.now.items)
emptied_there c = ap messages_in c.clear.ensures.items ∙ emptied c.args.slots.now.items c.args.slot c.requires.there.0

pub returns-then-slot-len-clause-kept : goal.returns-then-slot-len-clause-kept
returns-then-slot-len-clause-kept c =
    record {
      count =
          let old = c.args.slots.now.items in
          let slot = c.args.slot in
          let there = c.requires.there in
          let last = is_last c in
          let before : length old - 1 ≡ slot = omega (arith, last) in
          let new : c.take_last.new.slots.items ≡ take slot old = c.take_last.ensures.items ∙ ap (λ n. take n old) before in
          one_less old c.take_last.new.slots.items slot c.args.message.now c.args.empty.now there.0 there.1 c.requires.kept.count
          (ap messages_in new ∙ last_removed old slot last)
          (omega (arith, last, ap length new, length-take-le slot old (omega (arith, last))));
      told =
          let old = c.args.slots.now.items in
          let slot = c.args.slot in
          let last = is_last c in
          let before : length old - 1 ≡ slot = omega (arith, last) in
          let taken = c.take.ensures old c.requires.there c.requires.kept.told in
          subst (λ (l : List (Option Message)). IsTold eq-value.it c.take.new.self l) (sym (c.take_last.ensures.items ∙ ap (λ n. take n old) before))
          (told_without_last eq-value.it c.take.new.self old slot last taken);
      shown =
          let old = c.args.slots.now.items in
          let slot = c.args.slot in
          let there = c.requires.there in
          let last = is_last c in
          let before : length old - 1 ≡ slot = omega (arith, last) in
          let taken = c.unset.ensures old there.0 (has_message old slot c.args.message.now there.0 there.1) c.requires.kept.shown in
          subst (KeepsShown c.unset.new.self) (sym (c.take_last.ensures.items ∙ ap (λ n. take n old) before))
          (shown_without_last c.unset.new.self old slot last taken);
    }

pub returns-then-slot-len-clause-left : goal.returns-then-slot-len-clause-left
returns-then-slot-len-clause-left c =
    record {
      items =
          let old = c.args.slots.now.items in
          let slot = c.args.slot in
          let last = is_last c in
          let before : length old - 1 ≡ slot = omega (arith, last) in
          ap messages_in (c.take_last.ensures.items ∙ ap (λ n. take n old) before) ∙ last_removed old slot last;
      len = c.take_last.ensures.len;
      capacity = c.take_last.ensures.capacity;
    }

pub returns-else-is_kept-clause-kept : goal.returns-else-is_kept-clause-kept
returns-else-is_kept-clause-kept c =
    record {
      count =
          let old = c.args.slots.now.items in
          let there = c.requires.there in
          one_less old c.take_out.new.slots.items c.args.slot c.args.message.now c.args.empty.now there.0 there.1 c.requires.kept.count
          (taken_out c)
          (ap (λ (l : List (Option Message)). length l + 1) c.take_out.ensures.items ∙ length_without old c.args.slot there.0);
      told = λ kept. absurd (kept (ap length c.forget.ensures.numbers));
      shown = c.want_among_many.ensures c.take_out.new.slots.items (λ kept. absurd (true≢false (sym (c.if-is_kept.ensures.1 kept))));
    }

pub returns-else-is_kept-clause-left : goal.returns-else-is_kept-clause-left
returns-else-is_kept-clause-left c =
    record {
      items = taken_out c;
      len = c.take_out.ensures.len;
      capacity = c.take_out.ensures.capacity;
    }

pub returns-then-is_kept-clause-kept : goal.returns-then-is_kept-clause-kept
returns-then-is_kept-clause-kept c =
    record {
      count =
          let old = c.args.slots.now.items in
          let there = c.requires.there in
          one_emptied old c.clear.new.slots.items c.args.slot c.args.message.now c.args.empty.now there.0 there.1 c.requires.kept.count
          (emptied_there c)
          (ap length c.clear.ensures.items ∙ length-set old c.args.slot None);
      told =
          subst (λ (l : List (Option Message)). IsTold eq-value.it c.take.new.self l) (sym c.clear.ensures.items)
          (c.take.ensures c.args.slots.now.items c.requires.there c.requires.kept.told);
      shown =
          let old = c.args.slots.now.items in
          let there = c.requires.there in
          subst (KeepsShown c.unset.new.self) (sym c.clear.ensures.items)
          (c.unset.ensures old there.0 (has_message old c.args.slot c.args.message.now there.0 there.1) c.requires.kept.shown);
    }

pub returns-then-is_kept-clause-left : goal.returns-then-is_kept-clause-left
returns-then-is_kept-clause-left c =
    record {
      items = emptied_there c;
      len = c.clear.ensures.len;
      capacity = c.clear.ensures.capacity;
    }

pub drop_leading-requires : goal.drop_leading-requires
drop_leading-requires c =
    record {
      kept = record {
        count =
            let old = c.args.slots.now.items in
            let there = c.requires.there in
            one_less old c.take_first.new.slots.items c.args.slot c.args.message.now c.args.empty.now there.0 there.1 c.requires.kept.count
            (ap messages_in c.take_first.ensures.items ∙ first_removed old c.args.slot c.if-slot-eq0.true)
            (ap (λ (l : List (Option Message)). length l + 1) c.take_first.ensures.items ∙ length_dropped old (not_empty old c.args.slot there.0));
        told =
            let is_first : c.args.slot ≡ 0 = c.if-slot-eq0.true in
            let taken = c.take.ensures c.args.slots.now.items c.requires.there c.requires.kept.told in
            subst (λ (l : List (Option Message)). IsTold eq-value.it c.shift.new.self l) (sym c.take_first.ensures.items)
            (c.shift.ensures (drop 1 c.args.slots.now.items)
            (subst (λ (l : List (Option Message)). IsTold eq-value.it c.take.new.self l)
            (ap (λ i. set c.args.slots.now.items i None) is_first ∙ first_emptied c.args.slots.now.items (not_empty c.args.slots.now.items c.args.slot c.requires.there.0)) taken));
        shown =
            let old = c.args.slots.now.items in
            let there = c.requires.there in
            let is_first : c.args.slot ≡ 0 = c.if-slot-eq0.true in
            let taken = c.unset.ensures old there.0 (has_message old c.args.slot c.args.message.now there.0 there.1) c.requires.kept.shown in
            subst (KeepsShown c.drop_first.new.self) (sym c.take_first.ensures.items)
            (c.drop_first.ensures (drop 1 old)
            (subst (KeepsShown c.unset.new.self) (ap (λ i. set old i None) is_first ∙ first_emptied old (not_empty old c.args.slot there.0)) taken));
      };
    }

pub returns-then-slot-eq0-clause-kept : goal.returns-then-slot-eq0-clause-kept
returns-then-slot-eq0-clause-kept c =
    record {
      count = c.drop_leading.ensures.kept.count;
      told = c.drop_leading.ensures.kept.told;
      shown = c.drop_leading.ensures.kept.shown;
    }

pub returns-then-slot-eq0-clause-left : goal.returns-then-slot-eq0-clause-left
returns-then-slot-eq0-clause-left c =
    record {
      items = c.drop_leading.ensures.left.items ∙ ap messages_in c.take_first.ensures.items ∙ first_removed c.args.slots.now.items c.args.slot c.if-slot-eq0.true;
      len = no_more _ _ _ c.drop_leading.ensures.left.len c.take_first.ensures.len;
      capacity = c.drop_leading.ensures.left.capacity ∙ c.take_first.ensures.capacity;
    }
