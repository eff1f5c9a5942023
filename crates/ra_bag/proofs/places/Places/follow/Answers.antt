use Rattle.std.proofs.Common.{◌≡◌, ◌≢◌, List, ◌++◌, Option, Some, map, length, sym, ap, ◌∙◌, subst}
use Rattle.std.proofs.lemmas.Bool.{false≢true}
use Rattle.ra_stamp.specs.declared.message.Message.{Message}
use Rattle.ra_stamp.specs.contracts.message.MessagePartialEq.TheImpl.{eq-value}
use Rattle.ra_bag.specs.declared.places.Places.{Places}
use Rattle.ra_bag.specs.Places.{Tells}
use Rattle.ra_bag.proofs.Results.{on_ok}
use Rattle.ra_bag.proofs.places.Places.follow.Goals as goal
use Rattle.ra_bag.proofs.places.Places.follow.Goals.{else-are_known-via-then-are_known+else-is_err, else-are_known-via-else-are_known}

-- nothing is known any more
pub returns-then-is_err : goal.returns-then-is_err
returns-then-is_err c slots len told known = absurd (known (ap length c.forget.ensures.numbers))

pub returns-else-are_known : goal.returns-else-are_known
returns-else-are_known c slots len told known =
    elim c.else-are_known.branch [
      | else-are_known-via-then-are_known+else-is_err w ↦
          let added = on_ok w.add_all.result
          ((slots : List (Option Message)) → length slots ≡ c.args.slot → Tells eq-value.it c.args.self.now slots
          → Tells eq-value.it w.add_all.new.self (slots ++ map Some c.args.messages.now))
          (sym w.is_err.ensures.value ∙ w.if-is_err.false) w.add_all.ensures in
          subst (λ (p : Places). Tells eq-value.it p (slots ++ map Some c.args.messages.now)) (sym w.self-is)
          (added slots len (told (c.are_known.ensures.0 w.if-are_known.true)))
      | else-are_known-via-else-are_known w ↦
          absurd (false≢true (sym w.if-are_known.false ∙ c.are_known.ensures.1 (subst (λ (p : Places). length p.numbers.entries ≢ 0) w.self-is known)))
    ]
