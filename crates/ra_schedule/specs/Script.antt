-- Scripts: what each client does, in order.
use Rattle.std.specs.Prelude.{◌≡◌, ◌≢◌, ℕ, ◌≤◌, List, [], ◌∷◌, ◌++◌, length, zero, suc, Option, None, option_and_then, slice_get, All}
use Rattle.ra_stamp.specs.NodeId.{IsNodeNumber}
use Rattle.ra_stamp.specs.declared.mode.Mode.{Mode}
use Rattle.ra_schedule.specs.declared.script.Op.{Op}
use Rattle.ra_schedule.specs.declared.script.Op.TheVariants.{Lock, Unlock}

-- the node of a client, and its operations
pub record ScriptClient : Type 0 where
  pub node : ℕ
  pub ops : List Op

-- how many nodes there are, and the clients in order
pub record ScriptState : Type 0 where
  pub nodes : ℕ
  pub clients : List ScriptClient

-- after these operations the client has the name: it locked it, and has not unlocked it since
abbrev pub IsHeldAfter : List Op → List ℕ → Type 0
IsHeldAfter ops name = (before after : List Op) × (mode : Mode)
    × (ops ≡ before ++ Lock name mode ∷ after) × All (λ op. op ≢ Unlock name) after

-- an operation fits after these: a name is locked if the client does not have it, and unlocked if it does
abbrev pub Fits : List Op → Op → Type 0
Fits ops (Lock name mode) = IsHeldAfter ops name → ⊥
Fits ops (Unlock name) = IsHeldAfter ops name

-- each operation fits after those before it
abbrev pub IsPlan : List Op → Type 0
IsPlan ops = (before after : List Op) (op : Op) → ops ≡ before ++ op ∷ after → Fits before op

-- a client of a script of this many nodes: it is at one of them, and has at most 1,024 operations, which are a plan
pub record IsScriptClient (nodes : ℕ) (client : ScriptClient) : Type 0 where
  pub first : 1 ≤ client.node
  pub last : client.node ≤ nodes
  pub at_most : length client.ops ≤ 1024
  pub plan : IsPlan client.ops

-- what holds of each script: it has 1 to 64 nodes, and at most 64 clients, each at one of the nodes
pub record IsScript (script : ScriptState) : Type 0 where
  pub count : IsNodeNumber script.nodes
  pub at_most : length script.clients ≤ 64
  pub each : All (IsScriptClient script.nodes) script.clients

-- the client with this number, counted from 1
abbrev pub client_at : ScriptState → ℕ → Option ScriptClient
client_at script zero = None
client_at script (suc place) = slice_get script.clients place

-- the script with another client, at this node, which has nothing to do yet
abbrev pub with_client : ScriptState → ℕ → ScriptState
with_client script node = record script { clients = script.clients ++ record { node = node; ops = [] } ∷ [] }

-- the new script is the old one with another operation of the last client
abbrev pub AddsOp : ScriptState → Op → ScriptState → Type 0
AddsOp old op new = (before : List ScriptClient) × (last : ScriptClient)
    × (old.clients ≡ before ++ last ∷ [])
    × (new ≡ record old { clients = before ++ record last { ops = last.ops ++ op ∷ [] } ∷ [] })

-- the last client has these operations
abbrev pub LastHas : ScriptState → List Op → Type 0
LastHas script ops = (before : List ScriptClient) × (last : ScriptClient)
    × (script.clients ≡ before ++ last ∷ []) × (last.ops ≡ ops)

-- the operation of a client, numbered from 1, at a place, counted from 0
abbrev pub op_at : ScriptState → ℕ → ℕ → Option Op
op_at script client place = option_and_then (λ c. slice_get c.ops place) (client_at script client)
