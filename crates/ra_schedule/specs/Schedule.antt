-- Which choice comes next when a cluster follows a script, and the runs that a policy makes. All of it speaks of the
-- steps so far, with what was sent and marked at each.
use Rattle.std.specs.Prelude.{◌≡◌, ◌≢◌, ◌↔◌, ℕ, ◌+◌, ◌%◌, ◌<◌, nat_lt, List, [], ◌∷◌, ◌++◌, length, map, Some, None, slice_get, All, Contains, if◌then◌else◌, ◌==◌}
use Rattle.std.specs.List.{range_with_len}
use Rattle.std.specs.List.Sorted.{IsStrictlyIncreasing}
use Rattle.ra_stamp.specs.declared.entry.Mark.{Mark}
use Rattle.ra_stamp.specs.declared.entry.Mark.TheVariants.{Requested, Entered, Left, Withdrawn}
use Rattle.ra_stamp.specs.declared.message.Message.{Message as Sent}
use Rattle.ra_world.specs.declared.step.Step.{Step}
use Rattle.ra_world.specs.declared.step.Step.TheVariants.{Ask, Leave, Cancel, Deliver, Lose, Repeat, Forget}
use Rattle.ra_world.specs.declared.text.report.Report.{Report}
use Rattle.ra_world.specs.Traffic.{Move, LeavesUnderWay}
use Rattle.ra_world.specs.Run.{IsRun, GoesOn, marks_of}
use Rattle.ra_schedule.specs.declared.script.Op.{Op}
use Rattle.ra_schedule.specs.declared.script.Op.TheVariants.{Lock, Unlock}
use Rattle.ra_schedule.specs.declared.choice.Choice.{Choice}
use Rattle.ra_schedule.specs.declared.choice.Choice.TheVariants.{Client, Message, Lost, Repeated}
use Rattle.ra_schedule.specs.declared.choice.Policy.{Policy}
use Rattle.ra_schedule.specs.declared.choice.Policy.TheVariants.{Oldest, Newest, Seeded, Faulty, Listed}
use Rattle.ra_schedule.specs.declared.error.DriveError.{DriveError}
use Rattle.ra_schedule.specs.declared.error.DriveError.TheVariants.{TurnLimit, BadPlace, NotEnabled, Memory}
use Rattle.ra_schedule.specs.Script.{ScriptClient, ScriptState, client_at}
use Rattle.ra_schedule.specs.Seeds.{word_of}
use Rattle.ra_schedule.specs.Faults.{FaultRates}

-- the steps of these moves
abbrev pub steps_of : List Move → List Step
steps_of moves = map (λ move. move.step) moves

-- 1 if the step does an operation of this client, and otherwise 0. No operation is a cancel.
abbrev pub steps_in : ℕ → Step → ℕ
steps_in client (Ask node asker name mode) = if asker == client then 1 else 0
steps_in client (Leave node leaver name) = if leaver == client then 1 else 0
steps_in client (Cancel node waiter name) = 0
steps_in client (Deliver message) = 0
steps_in client (Lose message) = 0
steps_in client (Repeat message) = 0
steps_in client (Forget node) = 0

-- how many of these steps are this client's, which is its place in its list of operations
abbrev pub steps_by : ℕ → List Step → ℕ
steps_by client [] = 0
steps_by client (step ∷ steps) = steps_in client step + steps_by client steps

-- the step is an ask of this client
abbrev pub Asks : ℕ → Step → Type 0
Asks client (Ask node asker name mode) = asker ≡ client
Asks client (Leave node leaver name) = ⊥
Asks client (Cancel node waiter name) = ⊥
Asks client (Deliver message) = ⊥
Asks client (Lose message) = ⊥
Asks client (Repeat message) = ⊥
Asks client (Forget node) = ⊥

-- the mark says that the client entered
abbrev pub Enters : ℕ → Mark → Type 0
Enters client (Requested entry) = ⊥
Enters client (Entered entry) = entry.client ≡ client
Enters client (Left entry) = ⊥
Enters client (Withdrawn entry) = ⊥

-- the client waits: it has asked, and has no mark Entered since then. So a queued client waits, too.
abbrev pub IsWaiting : ℕ → List Move → Type 0
IsWaiting client moves = (before after : List Move) × (ask : Move) × (moves ≡ before ++ ask ∷ after)
    × Asks client ask.step × All (λ mark. Enters client mark → ⊥) (marks_of (ask ∷ after))

-- an operation of a client of a node, as a step
abbrev pub step_of : ℕ → ℕ → Op → Step
step_of node client (Lock name mode) = Ask node client name mode
step_of node client (Unlock name) = Leave node client name

-- the client has an operation left, and the next one is this step
abbrev pub IsNext : ScriptState → List Move → ℕ → Step → Type 0
IsNext script moves client step = (who : ScriptClient) × (op : Op) × (client_at script client ≡ Some who)
    × (slice_get who.ops (steps_by client (steps_of moves)) ≡ Some op) × (step ≡ step_of who.node client op)

-- the client is enabled, with this step: it is the next one, the client does not wait, and the run goes on with it
pub record Enables (script : ScriptState) (moves : List Move) (client : ℕ) (step : Step) : Type 0 where
  pub next : IsNext script moves client step
  pub free : IsWaiting client moves → ⊥
  pub goes_on : GoesOn script.nodes 0 moves step

-- the client is enabled, with its next step
abbrev pub IsEnabled : ScriptState → List Move → ℕ → Type 0
IsEnabled script moves client = (step : Step) × Enables script moves client step

-- this message is under way at this place, counted from 0 in the order of sending
abbrev pub IsAtPlace : List Move → ℕ → Sent → Type 0
IsAtPlace moves place message = (left : List Sent) × LeavesUnderWay moves left × (slice_get left place ≡ Some message)

-- the choice can be made, and this is its step
abbrev pub StandsFor : ScriptState → List Move → Choice → Step → Type 0
StandsFor script moves (Client client) step = Enables script moves client step
StandsFor script moves (Message place) step =
    (message : Sent) × IsAtPlace moves place message × (step ≡ Deliver message)
StandsFor script moves (Lost place) step = (message : Sent) × IsAtPlace moves place message × (step ≡ Lose message)
StandsFor script moves (Repeated place) step =
    (message : Sent) × IsAtPlace moves place message × (step ≡ Repeat message)

-- the choice names a client or a message that does not exist
abbrev pub IsBadPlace : ScriptState → List Move → Choice → Type 0
IsBadPlace script moves (Client client) = client_at script client ≡ None
IsBadPlace script moves (Message place) = (message : Sent) → IsAtPlace moves place message → ⊥
IsBadPlace script moves (Lost place) = (message : Sent) → IsAtPlace moves place message → ⊥
IsBadPlace script moves (Repeated place) = (message : Sent) → IsAtPlace moves place message → ⊥

-- the choice names an existing client that is not enabled
abbrev pub IsNotEnabled : ScriptState → List Move → Choice → Type 0
IsNotEnabled script moves (Client client) = (client_at script client ≢ None) × (IsEnabled script moves client → ⊥)
IsNotEnabled script moves (Message place) = ⊥
IsNotEnabled script moves (Lost place) = ⊥
IsNotEnabled script moves (Repeated place) = ⊥

-- this is the first enabled client in the order of the script
abbrev pub IsFirstEnabled : ScriptState → List Move → ℕ → Type 0
IsFirstEnabled script moves client = IsEnabled script moves client
    × ((other : ℕ) → other < client → IsEnabled script moves other → ⊥)

-- no client is enabled, and this many messages are under way
abbrev pub LeavesMessages : ScriptState → List Move → ℕ → Type 0
LeavesMessages script moves count = ((client : ℕ) → IsEnabled script moves client → ⊥)
    × ((left : List Sent) × LeavesUnderWay moves left × (length left ≡ count))

-- these are the enabled clients, each once, in the order of the script
pub record AreEnabled (script : ScriptState) (moves : List Move) (clients : List ℕ) : Type 0 where
  pub each : (client : ℕ) → Contains clients client ↔ IsEnabled script moves client
  pub in_order : IsStrictlyIncreasing clients

-- all choices of a turn: the enabled clients in the order of the script, then the messages under way in the order of
-- sending
abbrev pub AreChoices : ScriptState → List Move → List Choice → Type 0
AreChoices script moves choices = (clients : List ℕ) × (left : List Sent)
    × AreEnabled script moves clients × LeavesUnderWay moves left
    × (choices ≡ map Client clients ++ map Message (range_with_len 0 (length left)))

-- the word names this choice: the choice's number among all choices, counted from 0, is the word modulo how many there
-- are
abbrev pub IsNamedBy : ℕ → ScriptState → List Move → Choice → Type 0
IsNamedBy word script moves choice = (choices : List Choice) × AreChoices script moves choices
    × (slice_get choices (word % length choices) ≡ Some choice)

-- How a word changes a choice. Its first values modulo 1,000 lose the message, and the next ones repeat it. Faults
-- befall only messages.
abbrev pub with_fault : FaultRates → ℕ → Choice → Choice
with_fault faults word (Client client) = Client client
with_fault faults word (Message place) =
    if nat_lt (word % 1000) faults.lose then Lost place
    else if nat_lt (word % 1000) (faults.lose + faults.repeat) then Repeated place
    else Message place
with_fault faults word (Lost place) = Lost place
with_fault faults word (Repeated place) = Repeated place

-- how many words chance with faults draws for a step: one for a client's step, and two for a message's, the second of
-- which decides its fault
abbrev pub words_in : Step → ℕ
words_in (Ask node client name mode) = 1
words_in (Leave node client name) = 1
words_in (Cancel node client name) = 0
words_in (Deliver message) = 2
words_in (Lose message) = 2
words_in (Repeat message) = 2
words_in (Forget node) = 0

-- how many words chance with faults drew for these steps
abbrev pub words_by : List Step → ℕ
words_by [] = 0
words_by (step ∷ steps) = words_in step + words_by steps

-- the choice that a policy makes after these moves; by chance it is the one that the next word names, and with faults
-- what the word after that makes of it
abbrev pub Picks : ScriptState → Policy → List Move → Choice → Type 0
Picks script Oldest moves (Client client) = IsFirstEnabled script moves client
Picks script Oldest moves (Message place) = (place ≡ 0) × ((count : ℕ) × LeavesMessages script moves (count + 1))
Picks script Oldest moves (Lost place) = ⊥
Picks script Oldest moves (Repeated place) = ⊥
Picks script Newest moves (Client client) = IsFirstEnabled script moves client
Picks script Newest moves (Message place) = LeavesMessages script moves (place + 1)
Picks script Newest moves (Lost place) = ⊥
Picks script Newest moves (Repeated place) = ⊥
Picks script (Seeded seed) moves choice = IsNamedBy (word_of seed (length moves)) script moves choice
Picks script (Faulty seed faults) moves choice =
    (named : Choice) × IsNamedBy (word_of seed (words_by (steps_of moves))) script moves named
    × (choice ≡ with_fault faults (word_of seed (words_by (steps_of moves) + 1)) named)
Picks script (Listed choices) moves choice = slice_get choices.items (length moves) ≡ Some choice

-- the policy repeats no message: it has no faults that would, and lists no repeat
abbrev pub RepeatsNothing : Policy → Type 0
RepeatsNothing Oldest = Unit {0}
RepeatsNothing Newest = Unit {0}
RepeatsNothing (Seeded seed) = Unit {0}
RepeatsNothing (Faulty seed faults) = faults.repeat ≡ 0
RepeatsNothing (Listed choices) = All (λ choice. (place : ℕ) → choice ≢ Repeated place) choices.items

-- the policy has no choice left
abbrev pub Ends : ScriptState → Policy → List Move → Type 0
Ends script policy moves = (choice : Choice) → Picks script policy moves choice → ⊥

-- the moves are a run from start 0, and each is what the policy chose after those before it
pub record Follows (script : ScriptState) (policy : Policy) (moves : List Move) : Type 0 where
  pub run : IsRun script.nodes 0 moves
  pub each : (before after : List Move) (move : Move) → moves ≡ before ++ move ∷ after
      → (choice : Choice) × Picks script policy before choice × StandsFor script before choice move.step

-- why a policy cannot go on after these moves, if it may make at most this many
abbrev pub Stops : ScriptState → Policy → ℕ → List Move → DriveError → Type 0
Stops script policy limit moves TurnLimit =
    (length moves ≡ limit) × ((choice : Choice) × Picks script policy moves choice)
Stops script policy limit moves BadPlace = (length moves < limit)
    × ((choice : Choice) × Picks script policy moves choice × IsBadPlace script moves choice)
Stops script policy limit moves NotEnabled = (length moves < limit)
    × ((choice : Choice) × Picks script policy moves choice × IsNotEnabled script moves choice)
Stops script policy limit moves Memory = ⊥

-- every operation is done, and nothing waits, is queued or is under way
pub record IsFinished (script : ScriptState) (steps : List Step) (report : Report) : Type 0 where
  pub all_done : (client : ℕ) (who : ScriptClient) → client_at script client ≡ Some who
      → steps_by client steps ≡ length who.ops
  pub none_waits : report.waiting ≡ 0
  pub none_queued : report.queued ≡ 0
  pub none_under_way : report.under_way ≡ 0
