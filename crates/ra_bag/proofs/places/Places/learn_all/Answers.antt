use Rattle.std.proofs.Common.{rules, ◌≡◌, ◌<◌, ◌+◌, length, get_or, take, Some, None, refl, sym, ap, ◌∙◌, subst}
use Rattle.ra_stamp.specs.contracts.message.MessagePartialEq.TheImpl.{eq-value}
use Rattle.ra_stamp.proofs.StampLaws.{same_messages}
use Rattle.ra_bag.specs.Places.{Tells}
use Rattle.ra_bag.proofs.Told.{next_slot, next_none}
use Rattle.ra_bag.proofs.places.Places.learn_all.Goals.{in-Some+in_ok-add, in_default}
use Rattle.ra_bag.proofs.places.Places.learn_all.Goals as goal

pub loop-slot-preserved : goal.loop-slot-preserved
loop-slot-preserved c =
    let slots = c.args.slots.now.items in
    let i = c.loop-slot.slot in
    let lt : i < length slots = search rules in
    let held = c.loop-slot.invariant in
    elim c.match-index.branch [
      | in-Some+in_ok-add w ↦
          let m = w.in-Some.message in
          let at : get_or slots i (Some m) ≡ Some m = search rules in
          let learns = w.in_ok-add.ensures in
          record {
            first = ap (λ p. p.first) w.self-is ∙ learns.0 ∙ held.first;
            told = subst (λ p. Tells eq-value.it p (take (i + 1) slots)) (sym w.self-is)
                (next_slot eq-value.it same_messages c.loop-slot.self w.add.new.self i m i learns slots held.first refl lt at held.told);
          }
      | in_default w ↦
          let at : get_or slots i None ≡ None = search rules in
          record {
            first = ap (λ p. p.first) w.self-is ∙ held.first;
            told = subst (λ p. Tells eq-value.it p (take (i + 1) slots)) (sym w.self-is) (next_none eq-value.it c.loop-slot.self slots i lt at held.told);
          }
    ]
