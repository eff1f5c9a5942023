-- The text of the state at the end of a run of a script.
use Rattle.std.specs.Prelude.{◌≡◌, ◌↔◌, ℕ, ◌+◌, Bool, true, false, List, [], ◌∷◌, ◌++◌, length, zero, suc, Some, None, All, Contains, IsTrue, codes, decimal, string_bytes}
use Rattle.std.specs.List.Sorted.{IsStrictlySortedBy}
use Rattle.std.specs.Ordering.{nat_cmp}
use Rattle.std.specs.Cmp.Lexicographic.{slice_cmp}
use Rattle.ra_stamp.specs.declared.entry.Entry.{Entry}
use Rattle.ra_stamp.specs.declared.mode.Mode.{Mode}
use Rattle.ra_table.specs.Table.{LockTable, TableRun}
use Rattle.ra_world.specs.declared.text.report.Report.{Report}
use Rattle.ra_world.specs.declared.step.Step.TheVariants.{Ask}
use Rattle.ra_world.specs.Traffic.{Move}
use Rattle.ra_world.specs.Run.{marks_of}
use Rattle.ra_stamp.specs.Mode.{mode_word}
use Rattle.ra_text.specs.Lines.{field}
use Rattle.ra_world.specs.StateLines.{IsStateText}
use Rattle.ra_schedule.specs.declared.choice.Policy.{Policy}
use Rattle.ra_schedule.specs.declared.driver.client_state.ClientState.{ClientState}
use Rattle.ra_schedule.specs.declared.driver.client_state.ClientState.TheVariants.{Done, Waits, Next}
use Rattle.ra_schedule.specs.declared.script.Op.{Op}
use Rattle.ra_schedule.specs.declared.script.Op.TheVariants.{Lock, Unlock}
use Rattle.ra_schedule.specs.declared.driver.showing.Shown.{Shown}
use Rattle.ra_schedule.specs.Drive.{IsWholeRun}
use Rattle.ra_schedule.specs.Script.{ScriptClient, ScriptState, client_at, op_at}
use Rattle.ra_schedule.specs.Schedule.{steps_of, steps_by, IsWaiting, Enters, IsEnabled}

-- ---- Names

-- the name of an operation
abbrev pub name_of : Op → List ℕ
name_of (Lock name mode) = name
name_of (Unlock name) = name

-- an operation of this client of the script is about this name
abbrev pub IsNameAt : ScriptState → ℕ → List ℕ → Type 0
IsNameAt script client name = (place : ℕ) × (op : Op) × (op_at script client place ≡ Some op) × (name_of op ≡ name)

-- an operation of a client of the script is about this name
abbrev pub IsNameOf : ScriptState → List ℕ → Type 0
IsNameOf script name = (client : ℕ) × IsNameAt script client name

-- the names of the script, each once, in ascending order of their bytes
pub record AreNamesOf (script : ScriptState) (names : List (List ℕ)) : Type 0 where
  pub each : (name : List ℕ) → Contains names name ↔ IsNameOf script name
  pub in_order : IsStrictlySortedBy (slice_cmp nat_cmp) names

-- each request of the lock table, waiting or granted, is on one of these names
pub record HasOnlyNames (names : List (List ℕ)) (table : LockTable) : Type 0 where
  pub waiting : (e : Entry) → Contains table.waiting e → Contains names e.name
  pub holding : (e : Entry) → Contains table.holding e → Contains names e.name

-- ---- Clients

-- the client waits: it asked in the step with this number, counted from 1, for this name in this mode, and has no mark
-- Entered since then
pub record WaitsSinceStep (client : ℕ) (moves : List Move) (name : List ℕ) (mode : Mode) (number : ℕ) : Type 0 where
  pub before : List Move
  pub ask : Move
  pub after : List Move
  pub moves_are : moves ≡ before ++ ask ∷ after
  pub number_is : number ≡ length before + 1
  pub asks : (node : ℕ) × (ask.step ≡ Ask node client name mode)
  pub not_entered : All (λ mark. Enters client mark → ⊥) (marks_of (ask ∷ after))

-- what a client is at after these moves: it has nothing left to do, or waits since a step, or has a next operation,
-- which is enabled or not
abbrev pub IsClientState : ScriptState → List Move → ℕ → ClientState → Type 0
IsClientState script moves client Done =
    (IsWaiting client moves → ⊥) × (op_at script client (steps_by client (steps_of moves)) ≡ None)
IsClientState script moves client (Waits name mode number) = WaitsSinceStep client moves name mode number
IsClientState script moves client (Next op enabled) = (IsWaiting client moves → ⊥)
    × (op_at script client (steps_by client (steps_of moves)) ≡ Some op)
    × (IsTrue enabled ↔ IsEnabled script moves client)

-- an operation in words
abbrev pub op_fields : Op → List ℕ
op_fields (Lock name mode) = field (codes "lock") ++ field name ++ field (mode_word mode)
op_fields (Unlock name) = field (codes "unlock") ++ field name

-- whether an operation is enabled, in a word
abbrev pub enabled_word : Bool → List ℕ
enabled_word true = codes "enabled"
enabled_word false = codes "blocked"

-- what a client is at, in words
abbrev pub state_fields : ClientState → List ℕ
state_fields Done = field (codes "done")
state_fields (Waits name mode number) =
    field (codes "waits") ++ field name ++ field (mode_word mode) ++ field (decimal number)
state_fields (Next op enabled) = field (codes "next") ++ op_fields op ++ field (enabled_word enabled)

-- the line of a client of a node
abbrev pub client_line : ℕ → ℕ → ClientState → List ℕ
client_line client node state =
    codes "client" ++ field (decimal client) ++ field (decimal node) ++ state_fields state ++ codes "\n"

-- this is the line of a client after these moves
pub record IsClientLine (script : ScriptState) (moves : List Move) (client : ℕ) (line : List ℕ) : Type 0 where
  pub who : ScriptClient
  pub is_client : client_at script client ≡ Some who
  pub state : ClientState
  pub is_at : IsClientState script moves client state
  pub line_is : line ≡ client_line client who.node state

-- these are the lines of the clients 1 to `count`, in order
abbrev pub AreClientLines : ScriptState → List Move → ℕ → List ℕ → Type 0
AreClientLines script moves zero text = text ≡ []
AreClientLines script moves (suc count) text = (before line : List ℕ)
    × AreClientLines script moves count before × IsClientLine script moves (suc count) line × (text ≡ before ++ line)

-- ---- A state

-- The text says which state the cluster and the clients of a script are in after these moves. It tells of each name of
-- the script, and the lock table has requests on no others, so all of them are in the text.
pub record ShowsState (script : ScriptState) (moves : List Move) (text : List ℕ) : Type 0 where
  pub names : List (List ℕ)
  pub are_names : AreNamesOf script names
  pub whole_table : (table : LockTable) → TableRun (marks_of moves) table → HasOnlyNames names table
  pub clients : List ℕ
  pub are_clients : AreClientLines script moves (length script.clients) clients
  pub is_text : IsStateText script.nodes 0 moves names clients text

-- the moves are all that the policy chose until no choice was left, within the limit, and this is the state after them
pub record IsShown (script : ScriptState) (policy : Policy) (limit : ℕ) (shown : Shown) : Type 0 where
  pub moves : List Move
  pub report : Report
  pub run : IsWholeRun script policy limit moves report shown.finished
  pub state : ShowsState script moves (string_bytes shown.text)
