use Rattle.std.proofs.Common.{◌≢◌, None, length, sym, ap, ◌∙◌, subst}
use Rattle.std.specs.Prelude.{slice_set}
use Rattle.std.proofs.lemmas.Bool.{false≢true}
use Rattle.ra_stamp.specs.contracts.message.MessagePartialEq.TheImpl.{eq-value}
use Rattle.ra_bag.specs.declared.places.Places.{Places}
use Rattle.ra_bag.specs.Places.{Tells}
use Rattle.ra_bag.proofs.places.Places.take.Goals as goal
use Rattle.ra_bag.proofs.places.Places.take.Goals.{else-are_known-via-then-are_known+else-not-is_taken, else-are_known-via-else-are_known}

-- nothing is known any more
pub returns-then-not-is_taken : goal.returns-then-not-is_taken
returns-then-not-is_taken c slots stands told known = absurd (known (ap length c.forget.ensures.numbers))

pub returns-else-are_known : goal.returns-else-are_known
returns-else-are_known c slots stands told known =
    elim c.else-are_known.branch [
      | else-are_known-via-then-are_known+else-not-is_taken w ↦
          subst (λ (p : Places). Tells eq-value.it p (slice_set slots c.args.slot None)) (sym w.self-is)
          (w.is_taken.ensures w.if-not-is_taken.false slots stands (told (c.are_known.ensures.0 w.if-are_known.true)))
      | else-are_known-via-else-are_known w ↦
          absurd (false≢true (sym w.if-are_known.false ∙ c.are_known.ensures.1 (subst (λ (p : Places). length p.numbers.entries ≢ 0) w.self-is known)))
    ]
