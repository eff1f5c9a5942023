-- What is kept of a run that is made shorter. No public contract speaks of it.
use Rattle.std.specs.Prelude.{◌≡◌, ◌⊎◌, ℕ, ◌<◌, ◌≤◌, true, List, [], ◌∷◌, ◌++◌, length, slice_get, slice_index_or, Some, IsTrue}
use Rattle.ra_world.specs.declared.step.Step.{Step}
use Rattle.ra_world.specs.Traffic.{Move}
use Rattle.ra_world.specs.World.{WorldState}
use Rattle.ra_schedule.specs.declared.choice.Choice.{Choice}
use Rattle.ra_schedule.specs.declared.choice.Policy.TheVariants as policy
use Rattle.ra_schedule.specs.declared.driver.Driver.{Driver}
use Rattle.ra_schedule.specs.declared.driver.client_progress.Progress.{Progress}
use Rattle.ra_schedule.specs.declared.driver.shrinking.Listed.{Listed}
use Rattle.ra_schedule.specs.declared.driver.shrinking.ShorterRun.{ShorterRun}
use Rattle.ra_schedule.specs.Script.{ScriptState}
use Rattle.ra_schedule.specs.Schedule.{steps_of, StandsFor}
use Rattle.ra_schedule.specs.Listing.{AreChoicesBy, AreChoicesOf}
use Rattle.ra_schedule.specs.Driving.{IsDriven}
use Rattle.ra_schedule.specs.Shrinking.{IsStuckRun, ComesOf, IsInVain, cut}

-- some client waits
abbrev pub SomeoneWaits : List Progress → Type 0
SomeoneWaits clients =
    (place : ℕ) × (place < length clients) × ((d : Progress) → IsTrue (slice_index_or clients place d).waiting)

-- one choice for each move, which means its step
pub record AreChoicesFor (script : ScriptState) (choices : List Choice) (moves : List Move) : Type 0 where
  pub one_each : length choices ≡ length moves
  pub each : (before after : List Move) (move : Move) → moves ≡ before ++ move ∷ after
      → (choice : Choice) × (slice_get choices (length before) ≡ Some choice) × StandsFor script before choice move.step

-- the cluster has come this far by choices that are recorded
pub record IsReplay (script : ScriptState) (world : WorldState) (driver : Driver) : Type 0 where
  pub driven : IsDriven script world driver
  pub records : driver.records ≡ true
  pub choices : AreChoicesFor script driver.choices.items world.moves

-- the choice was made, if it can be
abbrev pub MadeIfPossible : ScriptState → Choice → (old new : List Move) → Type 0
MadeIfPossible script choice old new =
    ((move : Move) × StandsFor script old choice move.step × (new ≡ old ++ move ∷ []))
    ⊎ (((made : Step) → StandsFor script old choice made → ⊥) × (new ≡ old))

-- these are the steps and the choices of a run that is stuck
pub record IsStuckList (script : ScriptState) (moves : List Move) (list : Listed) : Type 0 where
  pub steps : list.steps.items ≡ steps_of moves
  pub by : AreChoicesBy script (policy.Listed list.choices) list.choices.items moves
  pub makes : AreChoicesOf script list.choices moves
  pub stuck : IsStuckRun script moves

-- it is such a run, made from these steps, and has fewer of them than the limit
pub record IsShorter (script : ScriptState) (steps : List Step) (limit : ℕ) (list : Listed) : Type 0 where
  pub moves : List Move
  pub is : IsStuckList script moves list
  pub comes : ComesOf script steps limit moves
  pub shorter : length moves < limit

-- no step from one place up to another can be left out
abbrev pub AreInVain : ScriptState → List Step → (from to : ℕ) → Type 0
AreInVain script steps from to =
    (place : ℕ) → from ≤ place → place < to → IsInVain script (cut steps place) (length steps)

-- this was found without the step at its place
abbrev pub IsShorterRunOf : ScriptState → List Step → ShorterRun → Type 0
IsShorterRunOf script steps found = IsShorter script (cut steps found.place) (length steps) found.list
