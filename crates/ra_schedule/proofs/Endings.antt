-- How scripts end, from the laws of nodes and of runs.
use Rattle.std.proofs.Common.{◌≡◌, ◌≢◌, ℕ, ◌≤◌, Bool, true, Option, Some, None, Result, Ok, Err, List, [], refl, arith}
use Rattle.std.proofs.lemmas.Bool.{false≢true}
use Rattle.std.specs.Prelude.{◌↔◌, IsTrue}
use Rattle.ra_world.specs.declared.text.report.Report.{Report}
use Rattle.ra_world.specs.Traffic.{Move, lost_by}
use Rattle.ra_world.specs.World.{Reports}
use Rattle.ra_world.specs.MainTheorem.{MainTheorem}
use Rattle.ra_schedule.specs.declared.choice.Policy.{Policy}
use Rattle.ra_schedule.specs.declared.driver.drive_script.DrivenCluster.{DrivenCluster}
use Rattle.ra_schedule.specs.declared.surveys.seed_outcomes.SeedOutcome.{SeedOutcome}
use Rattle.ra_schedule.specs.declared.surveys.seed_outcomes.SeedOutcome.TheVariants.{Finished, Stuck, Limit}
use Rattle.ra_schedule.specs.declared.error.DriveError.{DriveError}
use Rattle.ra_schedule.specs.declared.error.DriveError.TheVariants.{TurnLimit, BadPlace, NotEnabled, Memory}
use Rattle.ra_schedule.specs.Script.{ScriptState, IsScript}
use Rattle.ra_schedule.specs.Schedule.{steps_of, Ends, Follows, Stops, IsFinished, RepeatsNothing}
use Rattle.ra_schedule.specs.Drive.{Answers, IsInTime, IsWholeRun}
use Rattle.ra_schedule.specs.Driving.{IsThrough}
use Rattle.ra_schedule.specs.Faults.{FaultRates}
use Rattle.ra_schedule.specs.Survey.{chance, is_finished, IsOutcome}
use Rattle.ra_schedule.specs.Below.{LawsBelow}
use Rattle.ra_schedule.specs.LockOrder.{IsOutOfOrder, IsUnreleased}
use Rattle.ra_schedule.specs.Performing.{Performs, IsAtRest, ChoosesItself, LosesNothing, most_turns}
use Rattle.ra_schedule.specs.BelowFinishing.{LawsOfNodes, LawsOfRuns}
use Rattle.ra_schedule.proofs.StandingRuns.{all_stand}
use Rattle.ra_schedule.proofs.NoDeadlock.{finished}
use Rattle.ra_schedule.proofs.TurnBound.{numbers_left}
use Rattle.ra_schedule.proofs.ThoroughPolicies.{follows_performs, ends_at_rest, nothing_lost, turns_at_most, never_stops}

module _ (nodes_laws : LawsOfNodes) (laws : LawsOfRuns) (script : ScriptState) (fit : IsScript script) (ordered : IsOutOfOrder script → ⊥) (released : IsUnreleased script → ⊥)
    (moves : List Move) (report : Report) where
  pub at_rest_is_finished : Performs script moves → lost_by moves ≡ [] → IsAtRest script moves → Reports script.nodes 0 moves report → IsFinished script (steps_of moves) report
  at_rest_is_finished performs none_lost rest reports =
      let all = all_stand nodes_laws laws script fit moves performs in
      finished nodes_laws laws script fit ordered released moves performs.run (record { none_lost = none_lost; none_under_way = rest.none_under_way })
      rest.none_enabled all (numbers_left laws script fit moves performs all.nodes all.ends) report reports

  pub policy_finishes : (policy : Policy) → ChoosesItself policy → LosesNothing policy → Follows script policy moves → Ends script policy moves
      → Reports script.nodes 0 moves report → IsFinished script (steps_of moves) report
  policy_finishes policy itself unlost follows ends reports =
      let left = laws.a_list script.nodes 0 moves fit.count follows.run in
      at_rest_is_finished (follows_performs script policy moves follows) (nothing_lost script policy moves unlost follows)
      (ends_at_rest script policy moves itself ends left.0 left.1) reports

-- ---- What a driver answers

-- the run of a policy that has no choice left
pub whole_run : LawsOfNodes → LawsOfRuns → (script : ScriptState) → IsScript script → (policy : Policy) (limit : ℕ) (records : Bool) (cluster : DrivenCluster)
    (report : Report) (done : Bool) → IsThrough script policy limit records cluster → Reports script.nodes 0 cluster.world.moves report
    → MainTheorem script.nodes report → IsTrue done ↔ IsFinished script (steps_of cluster.world.moves) report
    → IsWholeRun script policy limit cluster.world.moves report done
whole_run nodes_laws laws script fit policy limit records cluster report done through reports theorem finished_is =
    let end = through.at_end in
    record {
      follows = end.follows;
      ends = end.ends;
      within = through.within;
      reports = reports;
      main_theorem = theorem;
      finished_is = finished_is;
      waiting_ends = λ itself unlost ordered released. finished_is.1
          (policy_finishes nodes_laws laws script fit ordered released cluster.world.moves report policy itself unlost end.follows end.ends reports);
    }

no_ok : {X : Type 0} {x : X} {y : DriveError} → Ok x ≡ Err y → ⊥
no_ok e = cc

module _ (laws : LawsOfRuns) (below : LawsBelow) (script : ScriptState) (fit : IsScript script) (policy : Policy) (limit : ℕ) where
  -- a policy that chooses by itself and repeats nothing is refused only for lack of memory
  only_memory : RepeatsNothing policy → ChoosesItself policy → most_turns script ≤ limit → (fault : DriveError)
      → (fault ≢ Memory → (moves : List Move) × Follows script policy moves × Stops script policy limit moves fault) → fault ≡ Memory
  only_memory unrepeated itself enough Memory refused = refl
  only_memory unrepeated itself enough TurnLimit refused =
      let (moves, follows, stops) = refused (λ e. cc) in
      absurd (never_stops laws below script fit policy unrepeated itself limit enough moves TurnLimit follows stops)
  only_memory unrepeated itself enough BadPlace refused =
      let (moves, follows, stops) = refused (λ e. cc) in
      absurd (never_stops laws below script fit policy unrepeated itself limit enough moves BadPlace follows stops)
  only_memory unrepeated itself enough NotEnabled refused =
      let (moves, follows, stops) = refused (λ e. cc) in
      absurd (never_stops laws below script fit policy unrepeated itself limit enough moves NotEnabled follows stops)

  pub in_time : {X : Type 0} (result : Result X DriveError) → Answers script policy limit result → IsInTime script policy limit result
  in_time (Ok value) answers = record { below_limit = λ unrepeated less is. no_ok is; only_memory = λ unrepeated itself enough. tt }
  in_time (Err fault) answers = record {
    below_limit = λ unrepeated less is.
        let (moves, follows, stops) = answers.refused TurnLimit (λ e. cc) is in
        omega (arith, less, stops.0, turns_at_most laws below script fit policy unrepeated moves follows);
    only_memory = λ unrepeated itself enough. only_memory unrepeated itself enough fault (λ apart. answers.refused fault apart refl);
  }

-- ---- The outcome of a seed

pub chance_chooses : (faults : Option FaultRates) (seed : ℕ) → ChoosesItself (chance faults seed)
chance_chooses None seed = tt
chance_chooses (Some faults) seed = tt

pub seed_finishes : LawsOfRuns → LawsBelow → (script : ScriptState) → IsScript script → (faults : Option FaultRates) (limit seed : ℕ) (outcome : SeedOutcome)
    → (IsOutOfOrder script → ⊥) → (IsUnreleased script → ⊥) → LosesNothing (chance faults seed) → RepeatsNothing (chance faults seed) → most_turns script ≤ limit
    → IsOutcome script (chance faults seed) limit outcome → is_finished outcome ≡ true
seed_finishes laws below script fit faults limit seed (Finished figures) ordered released unlost unrepeated enough came = refl
seed_finishes laws below script fit faults limit seed (Stuck figures) ordered released unlost unrepeated enough came =
    absurd (false≢true (came.run.waiting_ends (chance_chooses faults seed) unlost ordered released))
seed_finishes laws below script fit faults limit seed Limit ordered released unlost unrepeated enough (moves, follows, stops) =
    absurd (never_stops laws below script fit (chance faults seed) unrepeated (chance_chooses faults seed) limit enough moves TurnLimit follows stops)
