-- The outcome of a run, from the outcomes of its steps.
use Rattle.std.proofs.Common.{◌≡◌, ℕ, List, map, Result, Ok, Err, ap, subst}
use Rattle.std.specs.Prelude.{IfOk, OnOk, IsErrOf, IsOkUnless}
use Rattle.std.specs.Result.{result_and}
use Rattle.ra_world.specs.declared.step.Step.{Step}
use Rattle.ra_world.specs.declared.text.report.Report.{Report}
use Rattle.ra_world.specs.declared.error.RunError.{RunError}
use Rattle.ra_world.specs.Traffic.{Move}
use Rattle.ra_world.specs.Run.{IsRun}
use Rattle.ra_world.specs.World.{WorldState, HasMade, Reports}

-- it is the report if all steps were made
pub ok_and : (r : Result Unit RunError) (report : Report) (P : Report → Type 0) → OnOk r (P report) → IfOk (result_and r (Ok report)) P
ok_and (Ok u) report P holds = holds
ok_and (Err e) report P holds = tt

-- and otherwise the refusal
pub err_and : (r : Result Unit RunError) (report : Report) (e : RunError) → IsErrOf (result_and r (Ok report)) e → IsErrOf r e
err_and (Ok u) report e is = absurd cc
err_and (Err x) report e is = let same : x ≡ e = cc in ap Err same

pub unless_and : (r : Result Unit RunError) (report : Report) (e : RunError) → IsOkUnless r e → IsOkUnless (result_and r (Ok report)) e
unless_and (Ok u) report e is = tt
unless_and (Err x) report e is = is

-- the moves of a world that made these steps
pub ended : (n start : ℕ) (steps items : List Step) (w : WorldState) (report : Report) → HasMade n start steps w → steps ≡ items
    → Reports w.count w.start w.moves report
    → (moves : List Move) × (map (λ (move : Move). move.step) moves ≡ items) × IsRun n start moves × Reports n start moves report
ended n start steps items w report made same reports = (
  w.moves,
  subst (λ (ss : List Step). map (λ (move : Move). move.step) w.moves ≡ ss) same made.made,
  made.run,
  subst (λ (k : ℕ). Reports k start w.moves report) made.count (subst (λ (k : ℕ). Reports w.count k w.moves report) made.start_is reports),
)
