-- Which clients are enabled, as the driver keeps it from turn to turn if the choice is random. No public contract
-- speaks of it.
use Rattle.std.specs.Prelude.{◌≡◌, ◌≢◌, ◌↔◌, ◌⊎◌, ℕ, ◌+◌, ◌-◌, ◌<◌, Bool, List, [], ◌∷◌, length, slice_index_or, Option, Some, None, option_map, IsTrue, All, Contains, if◌then◌else◌}
use Rattle.ra_stamp.specs.declared.entry.Mark.{Mark}
use Rattle.ra_stamp.specs.Message.{to_of}
use Rattle.ra_world.specs.declared.step.Step.{Step}
use Rattle.ra_world.specs.declared.step.Step.TheVariants.{Ask, Leave, Cancel, Deliver, Lose, Repeat, Forget}
use Rattle.ra_world.specs.Traffic.{Move}
use Rattle.ra_schedule.specs.declared.choice.enabled.Enabled.{Enabled}
use Rattle.ra_schedule.specs.Script.{ScriptState, client_at}
use Rattle.ra_schedule.specs.Schedule.{IsEnabled, Enters}

-- the flag says whether the client is enabled
abbrev pub IsFlag : ScriptState → List Move → ℕ → Bool → Type 0
IsFlag script moves client flag = IsTrue flag ↔ IsEnabled script moves client

-- the flags of all clients, in the order of the script
pub record AreFlags (script : ScriptState) (moves : List Move) (flags : List Bool) : Type 0 where
  pub length_is : length flags ≡ length script.clients
  pub each : (k : ℕ) (d : Bool) → k < length flags → IsFlag script moves (k + 1) (slice_index_or flags k d)

-- after some clients were looked at again, each flag is right, or it is as before and its client is one of the others
abbrev pub AreRightOrKept : ScriptState → List Move → (old new : List Bool) → (IsOther : ℕ → Type 0) → Type 0
AreRightOrKept script moves old new IsOther =
    (k : ℕ) (d : Bool) → k < length old → IsFlag script moves (k + 1) (slice_index_or new k d)
    ⊎ ((slice_index_or new k d ≡ slice_index_or old k d) × IsOther (k + 1))

-- the numbers whose flags are set, if the first flag belongs to this number
abbrev pub numbers_from : ℕ → List Bool → List ℕ
numbers_from n [] = []
numbers_from n (flag ∷ flags) = if flag then n ∷ numbers_from (n + 1) flags else numbers_from (n + 1) flags

-- there is a flag for each client of the script, and the count is the number of flags that are set
pub record CountsFlags (script : ScriptState) (enabled : Enabled) : Type 0 where
  pub one_each : length enabled.flags.items ≡ length script.clients
  pub count_is : enabled.count ≡ length (numbers_from 1 enabled.flags.items)

-- the node of a client of the script
abbrev pub node_of : ScriptState → ℕ → Option ℕ
node_of script client = option_map (λ who. who.node) (client_at script client)

-- the node at which a step happens, if there is one
abbrev pub node_at : Step → Option ℕ
node_at (Ask node client name mode) = Some node
node_at (Leave node client name) = Some node
node_at (Cancel node client name) = Some node
node_at (Deliver message) = Some (to_of message)
node_at (Lose message) = None
node_at (Repeat message) = None
node_at (Forget node) = Some node

-- each client is in the list of its node; the lists are in the order of the nodes' numbers
abbrev pub AreNodeClients : ScriptState → List (List ℕ) → Type 0
AreNodeClients script node_clients = (client node : ℕ) (d : List ℕ) → node_of script client ≡ Some node
    → Contains (slice_index_or node_clients (node - 1) d) client

-- the flags are right for all clients but those at the node of a step and those that entered by its marks
abbrev pub AreFlagsElsewhere : Step → List Mark → ScriptState → List Move → List Bool → Type 0
AreFlagsElsewhere step marks script moves flags =
    (k : ℕ) (d : Bool) → k < length flags → node_of script (k + 1) ≢ node_at step
    → All (λ mark. Enters (k + 1) mark → ⊥) marks → IsFlag script moves (k + 1) (slice_index_or flags k d)
