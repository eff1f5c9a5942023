-- How far the driver has come with a script, and how it ends. No public contract speaks of it.
use Rattle.std.specs.Prelude.{◌≡◌, ◌⊎◌, ◌↔◌, ℕ, ◌+◌, ◌<◌, ◌≤◌, Bool, List, [], ◌∷◌, ◌++◌, length, Result, IsTrue, IfOk, IfErr, IfSome}
use Rattle.ra_stamp.specs.NodeId.{IsNodeNumber}
use Rattle.ra_world.specs.Traffic.{Move}
use Rattle.ra_world.specs.Run.{IsRun}
use Rattle.ra_world.specs.World.{WorldState}
use Rattle.ra_schedule.specs.declared.choice.Choice.{Choice}
use Rattle.ra_schedule.specs.declared.choice.Policy.{Policy}
use Rattle.ra_schedule.specs.declared.choice.picking.Picked.{Picked}
use Rattle.ra_world.specs.declared.step.Step.{Step}
use Rattle.ra_schedule.specs.declared.driver.Driver.{Driver}
use Rattle.ra_schedule.specs.declared.driver.drive_script.Driven.{Driven}
use Rattle.ra_schedule.specs.declared.driver.drive_script.DrivenCluster.{DrivenCluster}
use Rattle.ra_schedule.specs.declared.error.DriveError.{DriveError}
use Rattle.ra_schedule.specs.declared.error.DriveError.TheVariants.{BadPlace, NotEnabled, Memory}
use Rattle.ra_schedule.specs.Script.{ScriptState, IsScript}
use Rattle.ra_schedule.specs.Schedule.{StandsFor, Picks, IsBadPlace, IsNotEnabled, Ends, Follows, Stops}
use Rattle.ra_schedule.specs.Listing.{AreChoicesBy}
use Rattle.ra_schedule.specs.Shrinking.{IsStuckRun}
use Rattle.ra_schedule.specs.Drive.{IsWholeRun}
use Rattle.ra_schedule.specs.Progress.{Tracks, WaitOrAreDone, recorded}
use Rattle.ra_schedule.specs.PolicyState.{IsRandomState, generator_at, generator_in, words_drawn, words_for}

-- the cluster has come this far with the script, by whatever choices; this is the progress of its clients, and what
-- chance knows of them if it chooses
pub record IsDriven (script : ScriptState) (world : WorldState) (driver : Driver) : Type 0 where
  pub nodes : IsNodeNumber script.nodes
  pub run : IsRun script.nodes 0 world.moves
  pub tracks : Tracks script world driver.clients.items
  pub stuck : WaitOrAreDone script driver.clients.items driver.first
  pub random : IfSome driver.random (IsRandomState script world.moves)
  pub steps : driver.steps.items ≡ recorded driver.records world.moves

-- the choices of the policy are recorded, if the driver records
abbrev pub KeepsChoices : ScriptState → Policy → List Move → Driver → Type 0
KeepsChoices script policy moves driver = IsTrue driver.records → AreChoicesBy script policy driver.choices.items moves

-- the policy has come this far with the script, its choices are recorded, and its generator has given the words that
-- were drawn
pub record IsReady (script : ScriptState) (policy : Policy) (world : WorldState) (driver : Driver) : Type 0 where
  pub driven : IsDriven script world driver
  pub follows : Follows script policy world.moves
  pub choices : KeepsChoices script policy world.moves driver
  pub drawn : generator_in driver.random ≡ generator_at policy (words_drawn policy world.moves)

-- the policy has no choice left
pub record IsAtEnd (script : ScriptState) (policy : Policy) (world : WorldState) (driver : Driver) : Type 0 where
  pub tracks : Tracks script world driver.clients.items
  pub follows : Follows script policy world.moves
  pub ends : Ends script policy world.moves
  pub steps : driver.steps.items ≡ recorded driver.records world.moves
  pub choices : KeepsChoices script policy world.moves driver

-- the step of the choice was made, and the choice recorded
pub record HasTakenStep (script : ScriptState) (choice : Choice) (world : WorldState) (driver : Driver)
    (next : WorldState) (new : Driver) : Type 0 where
  pub driven : IsDriven script next new
  pub drawn : generator_in new.random ≡ generator_in driver.random
  pub records : new.records ≡ driver.records
  pub choices : IsTrue driver.records → new.choices.items ≡ driver.choices.items ++ choice ∷ []
  pub made : (move : Move) × StandsFor script world.moves choice move.step × (next.moves ≡ world.moves ++ move ∷ [])

-- a choice has this fault
abbrev pub HasFault : ScriptState → List Move → Choice → DriveError → Type 0
HasFault script moves choice fault =
    ((fault ≡ BadPlace) × IsBadPlace script moves choice) ⊎ ((fault ≡ NotEnabled) × IsNotEnabled script moves choice)

-- this is the step of a choice, or its fault
pub record IsMeaning (script : ScriptState) (moves : List Move) (choice : Choice)
    (meaning : Result Step DriveError) : Type 0 where
  pub ok : IfOk meaning (StandsFor script moves choice)
  pub err : IfErr meaning (HasFault script moves choice)

-- a choice cannot be made for lack of memory, or because of a fault of its own
abbrev pub CannotBeMade : ScriptState → List Move → Choice → DriveError → Type 0
CannotBeMade script moves choice fault = (fault ≡ Memory) ⊎ HasFault script moves choice fault

-- after these moves the choice of the policy cannot be made
abbrev pub IsRefused : ScriptState → Policy → List Move → DriveError → Type 0
IsRefused script policy moves fault =
    (choice : Choice) × Picks script policy moves choice × CannotBeMade script moves choice fault

-- the policy has made this choice, which means this; what it draws by may have changed, and who is looked at first
pub record HasChosen (script : ScriptState) (policy : Policy) (world : WorldState) (driver chosen : Driver)
    (picked : Picked) : Type 0 where
  pub driven : IsDriven script world chosen
  pub picks : Picks script policy world.moves picked.choice
  pub means : IsMeaning script world.moves picked.choice picked.meaning
  pub drawn : generator_in chosen.random ≡ generator_at policy
      (words_drawn policy world.moves + words_for policy picked.choice)
  pub choices : chosen.choices.items ≡ driver.choices.items

-- after these moves the policy has a choice that can be made
abbrev pub MayGoOn : ScriptState → Policy → List Move → Type 0
MayGoOn script policy moves =
    (choice : Choice) × (step : Step) × Picks script policy moves choice × StandsFor script moves choice step

-- the policy has come this far, a turn is left, and its choice can be made, so what keeps it from going on is not a
-- fault of the choice
pub record IsHeldUp (script : ScriptState) (policy : Policy) (limit : ℕ) (moves : List Move) : Type 0 where
  pub follows : Follows script policy moves
  pub within : length moves < limit
  pub goes_on : MayGoOn script policy moves

-- nothing has happened in the cluster yet, and the policy can begin; what it does is recorded or not
pub record IsOpened (script : ScriptState) (policy : Policy) (records : Bool) (cluster : DrivenCluster) : Type 0 where
  pub fit : IsScript script
  pub opened : cluster.world.moves ≡ []
  pub ready : IsReady script policy cluster.world cluster.driver
  pub records_as : cluster.driver.records ≡ records

-- the policy has no choice left after at most this many turns, and they are recorded or not
pub record IsThrough (script : ScriptState) (policy : Policy) (limit : ℕ) (records : Bool)
    (cluster : DrivenCluster) : Type 0 where
  pub fit : IsScript script
  pub at_end : IsAtEnd script policy cluster.world cluster.driver
  pub within : length cluster.world.moves ≤ limit
  pub records_as : cluster.driver.records ≡ records

-- the policy stops after these moves for lack of memory, or for a cause that applies there
abbrev pub IsStoppedAfter : ScriptState → Policy → ℕ → List Move → DriveError → Type 0
IsStoppedAfter script policy limit moves fault =
    (fault ≡ Memory) ⊎ (Follows script policy moves × Stops script policy limit moves fault)

-- what is recorded of a policy that has no choice left
pub record Records (script : ScriptState) (policy : Policy) (limit : ℕ) (records : Bool)
    (driven : Driven) : Type 0 where
  pub moves : List Move
  pub run : IsWholeRun script policy limit moves driven.summary.report driven.summary.finished
  pub steps : driven.steps.items ≡ recorded records moves
  pub choices : IsTrue records → AreChoicesBy script policy driven.choices.items moves
  pub turns : driven.summary.turns ≡ length moves
  pub stuck : IsTrue driven.stuck ↔ IsStuckRun script moves
