-- The printed lines of a state: what each node knows of names, the messages under way, and the requests on these names
-- that wait and hold, at the end of a run. A line is words with one space between two, and a line feed at its end, as
-- in a report.
use Rattle.std.specs.Prelude.{◌≡◌, ℕ, ◌+◌, List, [], ◌∷◌, ◌++◌, length, if◌then◌else◌, Option, Some, None, codes, decimal, flat_map}
use Rattle.std.specs.List.{range_with_len}
use Rattle.std.specs.FinSet as set
use Rattle.std.specs.FinMap as map
use Rattle.ra_stamp.specs.declared.entry.Entry.{Entry}
use Rattle.ra_stamp.specs.declared.message.Message.{Message}
use Rattle.ra_automaton.specs.State.{State}
use Rattle.ra_node.specs.declared.queued_client.Queued.{Queued}
use Rattle.ra_node.specs.Resource.{Resource, Use, use_of}
use Rattle.ra_node.specs.Resource.Use.{Nobody, WaitsBy, HoldsBy}
use Rattle.ra_node.specs.Node.{NodeState, resource_at}
use Rattle.ra_table.specs.Table.{LockTable, TableRun}
use Rattle.ra_world.specs.Traffic.{Move, LeavesUnderWay}
use Rattle.ra_world.specs.Run.{EndsWith, marks_of}
use Rattle.ra_world.specs.AtNodes.{IsTableOf}
use Rattle.ra_stamp.specs.Mode.{mode_word}
use Rattle.ra_text.specs.Lines.{field, entry_fields, message_fields, total_line}

-- ---- A name at a node

-- the first word of a line about a name at a node, and then the two
abbrev pub at_name : List ℕ → ℕ → List ℕ → List ℕ
at_name word i name = word ++ field (decimal i) ++ field name

-- the client, the mode and the number of a request
abbrev pub request_fields : Entry → List ℕ
request_fields e = field (decimal e.client) ++ field (mode_word e.mode) ++ field (decimal e.stamp.seq)

-- what a node's clients make of a name: nothing, or one request, which waits or is granted
abbrev pub use_fields : Use → List ℕ
use_fields Nobody = field (codes "idle")
use_fields (WaitsBy e) = field (codes "waiting") ++ request_fields e
use_fields (HoldsBy e) = field (codes "inside") ++ request_fields e

-- the first line of a name at a node: the highest number that the node has met, and its request
abbrev pub node_line : ℕ → List ℕ → Resource → List ℕ
node_line i name r =
    at_name (codes "node") i name ++ field (decimal r.state.highest) ++ use_fields (use_of r) ++ codes "\n"

-- the line of another node whose REPLY is awaited
abbrev pub awaits_line : ℕ → List ℕ → ℕ → List ℕ
awaits_line i name other = at_name (codes "awaits") i name ++ field (decimal other) ++ codes "\n"

-- the same if it is awaited in this state, and otherwise nothing
abbrev pub awaited_line : ℕ → List ℕ → State → ℕ → List ℕ
awaited_line i name s other = if set.contains s.awaited other then awaits_line i name other else []

-- the lines of the nodes from 1 to n whose REPLYs are awaited, in ascending order
abbrev pub awaited_lines : ℕ → ℕ → List ℕ → State → List ℕ
awaited_lines n i name s = flat_map (awaited_line i name s) (range_with_len 1 n)

-- the line of another node whose REPLY is deferred, with the number of its request if there is one, and otherwise
-- nothing
abbrev pub defers_line : ℕ → List ℕ → ℕ → Option ℕ → List ℕ
defers_line i name other None = []
defers_line i name other (Some number) =
    at_name (codes "defers") i name ++ field (decimal other) ++ field (decimal number) ++ codes "\n"

-- the same with the number that is deferred in this state
abbrev pub deferred_line : ℕ → List ℕ → State → ℕ → List ℕ
deferred_line i name s other = defers_line i name other (map.get s.deferred other)

-- the lines of the nodes from 1 to n to which a REPLY is deferred, in ascending order
abbrev pub deferred_lines : ℕ → ℕ → List ℕ → State → List ℕ
deferred_lines n i name s = flat_map (deferred_line i name s) (range_with_len 1 n)

-- the lines of the REPLYs that are awaited, and then of those that are deferred
abbrev pub others_lines : ℕ → ℕ → List ℕ → State → List ℕ
others_lines n i name s = awaited_lines n i name s ++ deferred_lines n i name s

-- the line of a queued client
abbrev pub queued_line : ℕ → List ℕ → Queued → List ℕ
queued_line i name q =
    at_name (codes "queued") i name ++ field (decimal q.client) ++ field (mode_word q.mode) ++ codes "\n"

-- the lines of a name at node i of n: its first one, then the lines of the awaited REPLYs, of the deferred ones, and of
-- the queued clients, the next one first
abbrev pub resource_lines : ℕ → ℕ → List ℕ → Resource → List ℕ
resource_lines n i name r =
    node_line i name r ++ others_lines n i name r.state ++ flat_map (queued_line i name) r.queue

-- the lines of these names at node i of n
abbrev pub lines_at : ℕ → List (List ℕ) → ℕ → NodeState → List ℕ
lines_at n names i node = flat_map (λ name. resource_lines n i name (resource_at node name)) names

-- the lines of these names at the nodes 1 to `count` of n, in ascending order
abbrev pub node_lines : ℕ → List (List ℕ) → (ℕ → NodeState) → ℕ → List ℕ
node_lines n names nodes count = flat_map (λ i. lines_at n names i (nodes i)) (range_with_len 1 count)

-- ---- Messages

-- the line of a message under way at a place, counted from 0 in the order of sending
abbrev pub message_line : ℕ → Message → List ℕ
message_line place message = codes "message" ++ field (decimal place) ++ message_fields message ++ codes "\n"

-- the lines of messages under way, the first one at this place
abbrev pub message_lines : ℕ → List Message → List ℕ
message_lines place [] = []
message_lines place (message ∷ messages) = message_line place message ++ message_lines (place + 1) messages

-- ---- The lock table

-- the line of the request of a node on a name, if there is one: the word `waiting` or `holding`, and then the fields of
-- a mark
abbrev pub table_line : Use → List ℕ
table_line Nobody = []
table_line (WaitsBy e) = codes "waiting" ++ entry_fields e ++ codes "\n"
table_line (HoldsBy e) = codes "holding" ++ entry_fields e ++ codes "\n"

-- the lines of the requests of a node on these names
abbrev pub table_lines_at : List (List ℕ) → NodeState → List ℕ
table_lines_at names node = flat_map (λ name. table_line (use_of (resource_at node name))) names

-- the lines of the requests of the nodes 1 to `count` on these names, in ascending order
abbrev pub table_lines : List (List ℕ) → (ℕ → NodeState) → ℕ → List ℕ
table_lines names nodes count = flat_map (λ i. table_lines_at names (nodes i)) (range_with_len 1 count)

-- ---- A state

-- the text of a state: how many steps were made, these names at the n nodes, the messages under way, these lines about
-- clients, and the requests on these names that wait and hold
abbrev pub state_text : (n steps : ℕ) → (names : List (List ℕ)) → (nodes : ℕ → NodeState) → (left : List Message)
    → (clients : List ℕ) → List ℕ
state_text n steps names nodes left clients =
    total_line (codes "steps") steps
    ++ node_lines n names nodes n
    ++ message_lines 0 left
    ++ clients
    ++ table_lines names nodes n

-- The text says which state n nodes are in after these moves from the start value. It tells what the nodes know of
-- these names, and has these lines about clients. The requests of the nodes are the lock table of the moves' marks, and
-- the text has the requests on these names.
pub record IsStateText (n start : ℕ) (moves : List Move) (names : List (List ℕ)) (clients text : List ℕ) : Type 0 where
  pub nodes : ℕ → NodeState
  pub ends : EndsWith n start moves nodes
  pub left : List Message
  pub under_way : LeavesUnderWay moves left
  pub table : LockTable
  pub marked : TableRun (marks_of moves) table
  pub at_nodes : IsTableOf n nodes table
  pub text_is : text ≡ state_text n (length moves) names nodes left clients
