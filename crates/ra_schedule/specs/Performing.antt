-- Runs in which the clients of a script do what it says, whichever client or message goes first.
use Rattle.std.specs.Prelude.{◌≡◌, ◌≢◌, ℕ, ◌+◌, ◌-◌, ◌*◌, List, [], ◌∷◌, ◌++◌, length, sum_by, All}
use Rattle.ra_world.specs.Traffic.{Move, LeavesUnderWay}
use Rattle.ra_world.specs.Run.{IsRun}
use Rattle.ra_schedule.specs.declared.script.Op.{Op}
use Rattle.ra_schedule.specs.declared.script.Op.TheVariants.{Lock, Unlock}
use Rattle.ra_schedule.specs.declared.choice.Choice.{Choice}
use Rattle.ra_schedule.specs.declared.choice.Choice.TheVariants.{Lost}
use Rattle.ra_schedule.specs.declared.choice.Policy.{Policy}
use Rattle.ra_schedule.specs.declared.choice.Policy.TheVariants.{Oldest, Newest, Seeded, Faulty, Listed}
use Rattle.ra_schedule.specs.Script.{ScriptState}
use Rattle.ra_schedule.specs.Schedule.{StandsFor, IsEnabled}

-- The clients do what the script says in these moves, which are a run from start 0. Each move is the next operation of
-- some enabled client, or the delivery, the loss or a copy of some message under way, in any order.
pub record Performs (script : ScriptState) (moves : List Move) : Type 0 where
  pub run : IsRun script.nodes 0 moves
  pub each : (before after : List Move) (move : Move) → moves ≡ before ++ move ∷ after
      → (choice : Choice) × StandsFor script before choice move.step

-- nothing can happen after these moves: no client is enabled, and no message is under way
pub record IsAtRest (script : ScriptState) (moves : List Move) : Type 0 where
  pub none_enabled : (client : ℕ) → IsEnabled script moves client → ⊥
  pub none_under_way : LeavesUnderWay moves []

-- ---- Policies

-- the policy chooses by itself, so that it goes on as long as anything can happen; a list may end before, or be refused
abbrev pub ChoosesItself : Policy → Type 0
ChoosesItself Oldest = Unit {0}
ChoosesItself Newest = Unit {0}
ChoosesItself (Seeded seed) = Unit {0}
ChoosesItself (Faulty seed faults) = Unit {0}
ChoosesItself (Listed choices) = ⊥

-- the policy loses no message: it has no faults that would, and lists no loss
abbrev pub LosesNothing : Policy → Type 0
LosesNothing Oldest = Unit {0}
LosesNothing Newest = Unit {0}
LosesNothing (Seeded seed) = Unit {0}
LosesNothing (Faulty seed faults) = faults.lose ≡ 0
LosesNothing (Listed choices) = All (λ choice. (place : ℕ) → choice ≢ Lost place) choices.items

-- ---- How many turns a script takes at most

-- how many of these operations are locks
abbrev pub locks_in : List Op → ℕ
locks_in [] = 0
locks_in (Lock name mode ∷ ops) = locks_in ops + 1
locks_in (Unlock name ∷ ops) = locks_in ops

-- how many operations of all clients are locks
abbrev pub locks_of : ScriptState → ℕ
locks_of script = sum_by (λ c. locks_in c.ops) script.clients

-- how many operations all clients have
abbrev pub operations_of : ScriptState → ℕ
operations_of script = sum_by (λ c. length c.ops) script.clients

-- the most turns that a script takes if no message is repeated: one for each operation, and for each lock a REQUEST to
-- each other node and a REPLY from it
abbrev pub most_turns : ScriptState → ℕ
most_turns script = operations_of script + 2 * (script.nodes - 1) * locks_of script
