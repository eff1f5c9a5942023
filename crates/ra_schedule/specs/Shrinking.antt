-- What a run that is stuck is shrunk to: a step is left out of it, and the others are done again as far as they can be.
use Rattle.std.specs.Prelude.{◌≡◌, ◌⊎◌, ℕ, ◌<◌, ◌≤◌, Bool, false, List, [], ◌∷◌, ◌++◌, length, take, drop, Option, Some, None, MatchOption, if◌then◌else◌, ◌==◌}
use Rattle.ra_stamp.specs.Sequence.{Listed as Listing}
use Rattle.ra_stamp.specs.declared.message.Message.{Message as Sent}
use Rattle.ra_stamp.specs.declared.message.Message.TheVariants.{Request, Reply}
use Rattle.ra_world.specs.declared.step.Step.{Step}
use Rattle.ra_world.specs.declared.step.Step.TheVariants.{Ask, Leave, Cancel, Deliver, Lose, Repeat, Forget}
use Rattle.ra_world.specs.declared.text.report.Report.{Report}
use Rattle.ra_world.specs.Traffic.{Move, LeavesUnderWay, repeated_by}
use Rattle.ra_world.specs.Run.{IsRun}
use Rattle.ra_schedule.specs.declared.choice.Choice.{Choice}
use Rattle.ra_schedule.specs.declared.choice.Choice.TheVariants.{Client, Message, Lost, Repeated}
use Rattle.ra_schedule.specs.declared.choice.Policy.{Policy}
use Rattle.ra_schedule.specs.declared.choice.Policy.TheVariants.{Listed}
use Rattle.ra_schedule.specs.declared.driver.shrinking.Shrunk.{Shrunk}
use Rattle.ra_schedule.specs.Script.{ScriptClient, ScriptState, client_at}
use Rattle.ra_schedule.specs.Schedule.{steps_of, steps_by, IsWaiting, IsEnabled, IsAtPlace, StandsFor}
use Rattle.ra_schedule.specs.Listing.{AreChoicesBy, AreChoicesOf}
use Rattle.ra_schedule.specs.Drive.{IsWholeRun}

-- ---- When a run is stuck

-- the client has made a step, and is enabled
abbrev pub CanGoOn : ScriptState → List Move → ℕ → Type 0
CanGoOn script moves client = (1 ≤ steps_by client (steps_of moves)) × IsEnabled script moves client

-- this is the first client in the order of the script that can go on
abbrev pub IsFirstToGoOn : ScriptState → List Move → ℕ → Type 0
IsFirstToGoOn script moves client =
    CanGoOn script moves client × ((other : ℕ) → other < client → CanGoOn script moves other → ⊥)

-- the client is one of the script, and waits
abbrev pub Waits : ScriptState → List Move → ℕ → Type 0
Waits script moves client = (who : ScriptClient) × (client_at script client ≡ Some who) × IsWaiting client moves

-- no client that has begun is enabled, and nothing is under way
pub record IsAtStandstill (script : ScriptState) (moves : List Move) : Type 0 where
  pub none_goes_on : (client : ℕ) → CanGoOn script moves client → ⊥
  pub none_under_way : LeavesUnderWay moves []

-- The run is stuck: of the clients that have begun none is enabled, and nothing is under way, but some client waits.
-- Others need not have begun.
pub record IsStuckRun (script : ScriptState) (moves : List Move) : Type 0 where
  pub quiet : IsAtStandstill script moves
  pub someone_waits : (client : ℕ) × Waits script moves client

-- ---- Leaving out a step

-- the client of a step, if it is one of a client
abbrev pub client_of : Step → Option ℕ
client_of (Ask node client name mode) = Some client
client_of (Leave node client name) = Some client
client_of (Cancel node client name) = Some client
client_of (Deliver message) = None
client_of (Lose message) = None
client_of (Repeat message) = None
client_of (Forget node) = None

-- whether both exist, and are the same
abbrev pub are_one : Option ℕ → Option ℕ → Bool
are_one None other = false
are_one (Some client) None = false
are_one (Some client) (Some other) = client == other

-- whether both are steps of one client
abbrev pub are_of_one_client : Step → Step → Bool
are_of_one_client one other = are_one (client_of one) (client_of other)

-- the steps that are not of the same client as this one
abbrev pub others : Step → List Step → List Step
others gone [] = []
others gone (step ∷ steps) = if are_of_one_client gone step then others gone steps else step ∷ others gone steps

-- the steps without the first one and, if that is of a client, without the later ones of this client
abbrev pub without_first : List Step → List Step
without_first [] = []
without_first (gone ∷ later) = others gone later

-- the steps without the one at this place and, if that is of a client, without the later ones of this client
abbrev pub cut : List Step → ℕ → List Step
cut steps place = take place steps ++ without_first (drop place steps)

-- ---- Doing steps again

-- the message without its number
abbrev pub unnumbered : Sent → Sent
unnumbered (Request from to name mode seq) = Request from to name mode 0
unnumbered (Reply from to name seq) = Reply from to name 0

-- a message is under way at this place that differs from this one at most in its number
abbrev pub IsAlikeAt : List Move → Sent → ℕ → Type 0
IsAlikeAt moves message place = (found : Sent) × IsAtPlace moves place found × (unnumbered found ≡ unnumbered message)

-- at this place is the first such message
abbrev pub IsFirstAlike : List Move → Sent → ℕ → Type 0
IsFirstAlike moves message place = IsAlikeAt moves message place
    × ((earlier : ℕ) → earlier < place → IsAlikeAt moves message earlier → ⊥)

-- The choice that does a step again: the next operation of its client, or the same with the first message that differs
-- from its own at most in the number. No choice cancels or forgets.
abbrev pub IsFor : List Move → Step → Choice → Type 0
IsFor moves (Ask node client name mode) choice = choice ≡ Client client
IsFor moves (Leave node client name) choice = choice ≡ Client client
IsFor moves (Cancel node client name) choice = ⊥
IsFor moves (Deliver message) choice = (place : ℕ) × (choice ≡ Message place) × IsFirstAlike moves message place
IsFor moves (Lose message) choice = (place : ℕ) × (choice ≡ Lost place) × IsFirstAlike moves message place
IsFor moves (Repeat message) choice = (place : ℕ) × (choice ≡ Repeated place) × IsFirstAlike moves message place
IsFor moves (Forget node) choice = ⊥

-- the step was done again, if it can be
abbrev pub Redone : ScriptState → Step → (old new : List Move) → Type 0
Redone script step old new =
    ((choice : Choice) × (move : Move) × IsFor old step choice × StandsFor script old choice move.step
    × (new ≡ old ++ move ∷ []))
    ⊎ (((choice : Choice) (made : Step) → IsFor old step choice → StandsFor script old choice made → ⊥) × (new ≡ old))

-- after the first moves these steps were done again, one after the other, each if it can be then
abbrev pub Replays : ScriptState → (old : List Move) → List Step → (new : List Move) → Type 0
Replays script old [] new = new ≡ old
Replays script old (step ∷ steps) new =
    (between : List Move) × Redone script step old between × Replays script between steps new

-- the oldest choice of those that have begun: the first client that can go on, or, if none can, the message that was
-- sent first
abbrev pub IsOldest : ScriptState → List Move → Choice → Type 0
IsOldest script moves (Client client) = IsFirstToGoOn script moves client
IsOldest script moves (Message place) = ((client : ℕ) → CanGoOn script moves client → ⊥) × (place ≡ 0)
    × ((message : Sent) × IsAtPlace moves 0 message)
IsOldest script moves (Lost place) = ⊥
IsOldest script moves (Repeated place) = ⊥

-- after the first moves, each is the oldest choice after those before it
abbrev pub GoesOnOldest : ScriptState → List Move → List Move → Type 0
GoesOnOldest script moves after = (rest : List Move) × (after ≡ moves ++ rest)
    × ((before later : List Move) (move : Move) → rest ≡ before ++ move ∷ later
    → (choice : Choice) × IsOldest script (moves ++ before) choice
    × StandsFor script (moves ++ before) choice move.step)

-- The moves of steps that are done again: first what each of them did, if it can be done then; then the oldest choice
-- of the clients that have begun, until there is none, or there are this many moves.
pub record ComesOf (script : ScriptState) (steps : List Step) (limit : ℕ) (moves : List Move) : Type 0 where
  pub redone : List Move
  pub replays : Replays script [] steps redone
  pub goes_on : GoesOnOldest script redone moves
  pub ends : (limit ≤ length moves) ⊎ IsAtStandstill script moves

-- ---- The least list

-- the run of these steps has at least this many moves, or is not stuck
pub record IsInVain (script : ScriptState) (steps : List Step) (limit : ℕ) : Type 0 where
  pub moves : List Move
  pub run : IsRun script.nodes 0 moves
  pub comes : ComesOf script steps limit moves
  pub vain : (limit ≤ length moves) ⊎ (IsStuckRun script moves → ⊥)

-- whichever step is left out, the run of the others is not stuck or not shorter
abbrev pub IsLeast : ScriptState → List Step → Type 0
IsLeast script steps = (place : ℕ) → place < length steps → IsInVain script (cut steps place) (length steps)

-- These choices make a run that is stuck, is no longer than the given one, and can't be made shorter by leaving out a
-- step. It repeats a message only if the given one does.
pub record IsLeastOf (script : ScriptState) (given : List Move) (choices : Listing Choice) : Type 0 where
  pub moves : List Move
  pub by : AreChoicesBy script (Listed choices) choices.items moves
  pub makes : AreChoicesOf script choices moves
  pub stuck : IsStuckRun script moves
  pub no_longer : length moves ≤ length given
  pub unrepeated : repeated_by given ≡ [] → repeated_by moves ≡ []
  pub least : IsLeast script (steps_of moves)

-- the policy was followed to its end within the limit. If this run is stuck, these are the choices of the least run
-- that was found, and otherwise there are none.
pub record IsShrunk (script : ScriptState) (policy : Policy) (limit : ℕ) (shrunk : Shrunk) : Type 0 where
  pub moves : List Move
  pub report : Report
  pub run : IsWholeRun script policy limit moves report shrunk.finished
  pub choices : MatchOption shrunk.choices (IsStuckRun script moves → ⊥)
      (λ choices. IsStuckRun script moves × IsLeastOf script moves choices)
