use Rattle.std.proofs.Common.{◌≡◌, ℕ, List, Result, map, refl, sym, ap, subst}
use Rattle.std.specs.Prelude.{◌↔◌, IfOk, OnOk, IsErrOf, IsOkUnless}
use Rattle.std.proofs.lemmas.Result.{on_ok_weaker}
use Rattle.ra_stamp.specs.NodeId.{IsNodeNumber}
use Rattle.ra_world.specs.declared.step.Step.{Step}
use Rattle.ra_world.specs.declared.text.report.Report.{Report}
use Rattle.ra_world.specs.declared.error.RunError.{RunError}
use Rattle.ra_world.specs.declared.error.RunError.TheVariants.{BadCount, Refused, Memory}
use Rattle.ra_world.specs.MainTheorem.{MainTheorem}
use Rattle.ra_world.specs.Traffic.{Move}
use Rattle.ra_world.specs.Run.{IsRun, WorldRun}
use Rattle.ra_world.specs.World.{WorldState, HasMade, Reports}
use Rattle.ra_world.specs.Refused.{IsRefusedAt}
use Rattle.ra_world.proofs.RunEnds.{ok_and, err_and, unless_and, ended}
use Rattle.ra_world.proofs.world.run_steps.run.Goals as goal

pub returns-clause-ok : goal.returns-clause-ok
returns-clause-ok c =
    let report = c.into_report-report.result in
    let P = λ (n start : ℕ) (r : Report). (moves : List Move) × (map (λ (move : Move). move.step) moves ≡ c.args.steps.now.items) × IsRun n start moves × Reports n start moves r in
    subst (λ (q : Result Report RunError). IfOk q (P c.args.nodes c.args.start)) (sym c.and.ensures)
    (ok_and c.step_through-stepped.result report (P c.args.nodes c.args.start)
    (subst (λ (w : WorldState). OnOk c.step_through-stepped.result (P w.count w.start report)) c.in_ok-world.ensures.ok
    (on_ok_weaker c.step_through-stepped.result
    (λ made. ended c.in_ok-world.world.count c.in_ok-world.world.start c.as_slice.result.now c.args.steps.now.items c.step_through-stepped.new.world report made c.as_slice.ensures
    c.into_report-report.ensures.report)
    c.step_through-stepped.ensures.ok)))

pub returns-clause-main_theorem : goal.returns-clause-main_theorem
returns-clause-main_theorem c =
    let report = c.into_report-report.result in
    subst (λ (q : Result Report RunError). IfOk q (MainTheorem c.args.nodes)) (sym c.and.ensures)
    (ok_and c.step_through-stepped.result report (MainTheorem c.args.nodes)
    (subst (λ (w : WorldState). OnOk c.step_through-stepped.result (MainTheorem w.count report)) c.in_ok-world.ensures.ok
    (on_ok_weaker c.step_through-stepped.result
    (λ (made : HasMade c.in_ok-world.world.count c.in_ok-world.world.start c.as_slice.result.now c.step_through-stepped.new.world).
    subst (λ (n : ℕ). MainTheorem n report) made.count c.into_report-report.ensures.main_theorem)
    c.step_through-stepped.ensures.ok)))

pub returns-clause-bad_count : goal.returns-clause-bad_count
returns-clause-bad_count c =
    let report = c.into_report-report.result in
    subst (λ (q : Result Report RunError). IsErrOf q BadCount ↔ (IsNodeNumber c.args.nodes → ⊥)) (sym c.and.ensures) (
      λ is. absurd (c.step_through-stepped.ensures.counted (err_and c.step_through-stepped.result report BadCount is)),
      λ no. absurd (no c.in_ok-world.ensures.count),
    )

pub returns-clause-refused : goal.returns-clause-refused
returns-clause-refused c place cause is =
    let report = c.into_report-report.result in
    let ends = err_and c.step_through-stepped.result report (Refused place cause) (subst (λ (q : Result Report RunError). IsErrOf q (Refused place cause)) c.and.ensures is) in (
      c.in_ok-world.ensures.count,
      subst (λ (steps : List Step). IsRefusedAt c.args.nodes c.args.start steps place cause) c.as_slice.ensures
          (subst (λ (w : WorldState). IsRefusedAt w.count w.start c.as_slice.result.now place cause) c.in_ok-world.ensures.ok
          (c.step_through-stepped.ensures.refused place cause ends)),
    )

pub returns-clause-allowed : goal.returns-clause-allowed
returns-clause-allowed c number run =
    let report = c.into_report-report.result in
    let stepped = subst (λ (steps : List Step). WorldRun c.args.nodes c.args.start steps → IsOkUnless c.step_through-stepped.result Memory) c.as_slice.ensures
    (subst (λ (w : WorldState). WorldRun w.count w.start c.as_slice.result.now → IsOkUnless c.step_through-stepped.result Memory) c.in_ok-world.ensures.ok
    c.step_through-stepped.ensures.allowed) in
    subst (λ (q : Result Report RunError). IsOkUnless q Memory) (sym c.and.ensures) (unless_and c.step_through-stepped.result report Memory (stepped run))

pub step_through-stepped-requires : goal.step_through-stepped-requires
step_through-stepped-requires c =
    let ok = c.in_ok-world.ensures.ok in
    record {
      opening = record {
        number = subst IsNodeNumber (sym (ap (λ (w : WorldState). w.count) ok)) c.in_ok-world.ensures.count;
        count = refl;
        start_is = refl;
        made = ap (λ (w : WorldState). map (λ (move : Move). move.step) w.moves) ok;
        run = c.in_ok-world.ensures.run;
      };
    }

pub returns-clause-count : goal.returns-clause-count
returns-clause-count c =
    let report = c.into_report-report.result in
    subst (λ (q : Result Report RunError). OnOk q (IsNodeNumber c.args.nodes)) (sym c.and.ensures)
    (ok_and c.step_through-stepped.result report (λ _. IsNodeNumber c.args.nodes)
    (on_ok_weaker c.step_through-stepped.result (λ _. c.in_ok-world.ensures.count) c.step_through-stepped.ensures.ok))
