use Rattle.std.proofs.Common.{◌≡◌, Bool, true, false, Option, Some, None, refl, sym, ◌∙◌, inl, inr}
use Rattle.std.specs.Prelude.{not}
use Rattle.std.specs.Option.{is_some}
use Rattle.std.proofs.lemmas.Bool.{false≢true}
use Rattle.ra_schedule.specs.declared.script.Op.{Op}
use Rattle.ra_schedule.proofs.Turns.{stuck_more}
use Rattle.ra_schedule.proofs.driver.client_progress.first_free.Goals as goal
use Rattle.ra_schedule.proofs.driver.client_progress.first_free.Goals.{else-not-progress-via-then-not-progress+else-is_some, else-not-progress-via-else-not-progress}

-- what is not something is nothing
nothing : (found : Option Op) (some : Bool) → some ≡ is_some found → some ≡ false → found ≡ None
nothing (Some op) some is not = absurd (false≢true (sym not ∙ is))
nothing None some is not = refl

-- what is not false is true
not_not : (b : Bool) → not b ≡ false → b ≡ true
not_not true is = refl
not_not false is = absurd (false≢true (sym is))

pub loop-place-preserved : goal.loop-place-preserved
loop-place-preserved c =
    elim c.else-not-progress.branch [
      | else-not-progress-via-then-not-progress+else-is_some w ↦
          stuck_more c.args.script.now c.args.clients.now c.loop-place.place (record { done = 0; waiting = false }) false c.loop-place.invariant
          (inr (inr (sym w.op.ensures.value ∙ nothing _ _ w.is_some.ensures w.if-is_some.false))) refl
      | else-not-progress-via-else-not-progress w ↦
          stuck_more c.args.script.now c.args.clients.now c.loop-place.place (record { done = 0; waiting = false }) false c.loop-place.invariant
          (inr (inl (not_not _ w.if-not-progress.false))) refl
    ]
