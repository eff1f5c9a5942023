-- The outcomes of a script under many seeds.
use Rattle.std.specs.Prelude.{◌≡◌, ℕ, ◌+◌, ◌-◌, ◌≤◌, Bool, true, false, List, [], ◌∷◌, length, map, filter, flat_map, Option, Some, None, option_map, slice_get, All, Contains, IfSome}
use Rattle.std.specs.List.{position_from}
use Rattle.ra_world.specs.declared.text.report.Report.{Report}
use Rattle.ra_world.specs.Traffic.{Move}
use Rattle.ra_schedule.specs.declared.choice.Policy.{Policy}
use Rattle.ra_schedule.specs.declared.choice.Policy.TheVariants.{Seeded, Faulty}
use Rattle.ra_schedule.specs.declared.error.DriveError.TheVariants.{TurnLimit}
use Rattle.ra_schedule.specs.declared.surveys.seed_outcomes.RunCost.{RunCost}
use Rattle.ra_schedule.specs.declared.surveys.seed_outcomes.SeedOutcome.{SeedOutcome}
use Rattle.ra_schedule.specs.declared.surveys.seed_outcomes.SeedOutcome.TheVariants.{Finished, Stuck, Limit}
use Rattle.ra_schedule.specs.declared.surveys.seed_outcomes.Tally.{Tally}
use Rattle.ra_schedule.specs.declared.surveys.seed_outcomes.Spread.{Spread}
use Rattle.ra_schedule.specs.declared.surveys.seed_outcomes.Survey.{Survey}
use Rattle.ra_schedule.specs.Faults.{FaultRates}
use Rattle.ra_schedule.specs.Script.{ScriptState}
use Rattle.ra_schedule.specs.LockOrder.{IsOutOfOrder, IsUnreleased}
use Rattle.ra_schedule.specs.Performing.{most_turns}
use Rattle.ra_schedule.specs.Schedule.{Follows, Stops}
use Rattle.ra_schedule.specs.Drive.{IsWholeRun}

-- the policy of chance by this seed, with faults or without
abbrev pub chance : Option FaultRates → ℕ → Policy
chance None seed = Seeded seed
chance (Some faults) seed = Faulty seed faults

-- the policy was followed to its end within the limit; these are the turns made and messages sent, and whether the run
-- is finished
pub record HasEnded (script : ScriptState) (policy : Policy) (limit : ℕ) (figures : RunCost)
    (finished : Bool) : Type 0 where
  pub moves : List Move
  pub report : Report
  pub run : IsWholeRun script policy limit moves report finished
  pub turns : figures.turns ≡ length moves
  pub messages : figures.messages ≡ report.sent

-- the outcome of a script under a policy, within this many turns: finished, stuck, or a choice left at the limit
abbrev pub IsOutcome : ScriptState → Policy → ℕ → SeedOutcome → Type 0
IsOutcome script policy limit (Finished figures) = HasEnded script policy limit figures true
IsOutcome script policy limit (Stuck figures) = HasEnded script policy limit figures false
IsOutcome script policy limit Limit =
    (moves : List Move) × Follows script policy moves × Stops script policy limit moves TurnLimit

-- the outcome of a script under each seed, from this one on
abbrev pub AreOutcomes : ScriptState → Option FaultRates → (limit first : ℕ) → List SeedOutcome → Type 0
AreOutcomes script faults limit first outcomes =
    (place : ℕ) (outcome : SeedOutcome) → slice_get outcomes place ≡ Some outcome
    → IsOutcome script (chance faults (first + place)) limit outcome

-- ---- Counted

-- whether the run ended and is finished
abbrev pub is_finished : SeedOutcome → Bool
is_finished (Finished figures) = true
is_finished (Stuck figures) = false
is_finished Limit = false

-- whether the run ended and is not finished
abbrev pub is_stuck : SeedOutcome → Bool
is_stuck (Finished figures) = false
is_stuck (Stuck figures) = true
is_stuck Limit = false

-- whether a choice was left at the limit of turns
abbrev pub is_limit : SeedOutcome → Bool
is_limit (Finished figures) = false
is_limit (Stuck figures) = false
is_limit Limit = true

-- the figures of a run, if it came to an end
abbrev pub figures_of : SeedOutcome → List RunCost
figures_of (Finished figures) = figures ∷ []
figures_of (Stuck figures) = figures ∷ []
figures_of Limit = []

-- how many turns were made, in each run that came to an end
abbrev pub turns_of : List SeedOutcome → List ℕ
turns_of outcomes = map (λ figures. figures.turns) (flat_map figures_of outcomes)

-- how many messages were sent, in each run that came to an end
abbrev pub messages_of : List SeedOutcome → List ℕ
messages_of outcomes = map (λ figures. figures.messages) (flat_map figures_of outcomes)

-- how many of the seeds from this one on came to such an end, and the first of them, if any did
abbrev pub tally_of : (SeedOutcome → Bool) → ℕ → List SeedOutcome → Option Tally
tally_of test first outcomes =
    option_map (λ seed. record { seeds = length (filter test outcomes); first = seed })
    (position_from test first outcomes)

-- the tally with another seed, after those that were counted
abbrev pub tally_with : Option Tally → ℕ → Tally
tally_with None seed = record { seeds = 1; first = seed }
tally_with (Some tally) seed = record tally { seeds = tally.seeds + 1 }

-- the least and the most of these numbers, if there are any
abbrev pub IsLeastAndMost : List ℕ → Option Spread → Type 0
IsLeastAndMost numbers None = numbers ≡ []
IsLeastAndMost numbers (Some spread) = Contains numbers spread.least × Contains numbers spread.most
    × All (λ number. (spread.least ≤ number) × (number ≤ spread.most)) numbers

-- the survey counts the outcomes of the seeds from this one on
pub record Tallies (first : ℕ) (outcomes : List SeedOutcome) (survey : Survey) : Type 0 where
  pub finished : survey.finished ≡ tally_of is_finished first outcomes
  pub stuck : survey.stuck ≡ tally_of is_stuck first outcomes
  pub limit : survey.limit ≡ tally_of is_limit first outcomes
  pub turns : IsLeastAndMost (turns_of outcomes) survey.turns
  pub messages : IsLeastAndMost (messages_of outcomes) survey.messages

-- ---- Waiting ends

-- there are no faults, or none that lose a message
abbrev pub NoneIsLost : Option FaultRates → Type 0
NoneIsLost faults = IfSome faults (λ rates. rates.lose ≡ 0)

-- there are no faults, or none that repeat a message
abbrev pub NoneIsRepeated : Option FaultRates → Type 0
NoneIsRepeated faults = IfSome faults (λ rates. rates.repeat ≡ 0)

-- If the clients of a script take names in ascending order and give them all back, no seed is stuck unless messages are
-- lost. With any script, no seed comes to a limit of at least `most_turns` unless messages are repeated. So if no
-- message is lost or repeated, each seed from the first to the last is counted as finished.
pub record SeedsFinish (script : ScriptState) (faults : Option FaultRates) (limit first last : ℕ)
    (survey : Survey) : Type 0 where
  pub none_stuck : (IsOutOfOrder script → ⊥) → (IsUnreleased script → ⊥) → NoneIsLost faults → survey.stuck ≡ None
  pub none_at_limit : NoneIsRepeated faults → most_turns script ≤ limit → survey.limit ≡ None
  pub all_finished : (IsOutOfOrder script → ⊥) → (IsUnreleased script → ⊥) → NoneIsLost faults → NoneIsRepeated faults
      → most_turns script ≤ limit → first ≤ last
      → survey.finished ≡ Some (record { seeds = last + 1 - first; first = first })

-- the survey of a script under chance, with faults or without, by each seed from the first to the last, both included
pub record IsSurvey (script : ScriptState) (faults : Option FaultRates) (limit first last : ℕ)
    (survey : Survey) : Type 0 where
  pub outcomes : List SeedOutcome
  pub each : AreOutcomes script faults limit first outcomes
  pub all : length outcomes ≡ last + 1 - first
  pub tallies : Tallies first outcomes survey
