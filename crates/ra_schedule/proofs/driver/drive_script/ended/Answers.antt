use Rattle.std.proofs.Common.{◌∙◌, ℕ, List, length, refl, sym, ap, subst}
use Rattle.std.specs.Prelude.{◌↔◌, IsTrue}
use Rattle.ra_world.specs.MainTheorem.{MainTheorem}
use Rattle.ra_world.specs.World.{Reports}
use Rattle.ra_schedule.specs.declared.driver.client_progress.Progress.{Progress}
use Rattle.ra_schedule.specs.Progress.{Tracks}
use Rattle.ra_schedule.specs.Schedule.{steps_of, IsFinished}
use Rattle.ra_schedule.proofs.Endings.{whole_run}
use Rattle.ra_schedule.proofs.Turns.{all_done, are_done, records_all}
use Rattle.ra_schedule.proofs.ScheduleLaws.{endings_rest_on_nodes, endings_rest_on_runs}
use Rattle.ra_schedule.proofs.driver.drive_script.ended.Goals as goal

pub is_stuck-stuck-requires : goal.is_stuck-stuck-requires
is_stuck-stuck-requires c =
    subst (λ (list : List Progress). Tracks c.args.script.now c.args.cluster.world list) (sym c.deref.ensures.value) c.requires

pub is_finished-finished-requires : goal.is_finished-finished-requires
is_finished-finished-requires c = ap length c.deref-2.ensures.value ∙ c.requires.length_is

pub returns-clause-run : goal.returns-clause-run
returns-clause-run c policy limit records through =
    let script = c.args.script.now in
    let world = c.args.cluster.world in
    let tracks = c.requires in
    let told = c.into_report-report.ensures in
    let report = c.into_report-report.result in
    let clients = c.deref-2.result.now in
    let same = subst (λ (of : List Progress). Tracks script world of) (sym c.deref-2.ensures.value) tracks in
    let all = c.is_finished-finished.ensures in
    let finished : IsTrue c.is_finished-finished.result ↔ IsFinished script (steps_of world.moves) report = (
      λ yes.
          let (none_waits, none_queued, none_under_way, done) = all.0 yes in
          record {
            all_done = all_done script world clients (steps_of world.moves) same refl done;
            none_waits = none_waits;
            none_queued = none_queued;
            none_under_way = none_under_way;
          },
      λ h. all.1 (h.none_waits, h.none_queued, h.none_under_way, are_done script world clients (steps_of world.moves) same refl h.all_done),
    ) in
    whole_run endings_rest_on_nodes endings_rest_on_runs script through.fit policy limit records c.args.cluster report c.is_finished-finished.result through
    (subst (λ (n : ℕ). Reports n 0 world.moves report) tracks.count
    (subst (λ (s : ℕ). Reports world.count s world.moves report) tracks.start told.report))
    (subst (λ (n : ℕ). MainTheorem n report) tracks.count told.main_theorem) finished

pub returns-clause-made : goal.returns-clause-made
returns-clause-made c policy limit records through =
    records_all c.args.script.now policy c.args.cluster limit records _ through refl refl c.steps-turns.ensures.value
    (returns-clause-run c policy limit records through) c.is_stuck-stuck.ensures
