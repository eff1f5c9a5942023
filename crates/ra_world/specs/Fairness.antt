-- Which requests overtake a waiting one. Once its REQUEST has arrived at another node, at most one request of that node
-- does.
use Rattle.std.specs.Prelude.{◌≡◌, ◌≢◌, ℕ, ◌<◌, List, ◌++◌, Contains, map}
use Rattle.ra_stamp.specs.declared.entry.Entry.{Entry}
use Rattle.ra_stamp.specs.declared.entry.Mark.{Mark}
use Rattle.ra_stamp.specs.declared.entry.Mark.TheVariants.{Entered, Withdrawn}
use Rattle.ra_stamp.specs.declared.message.Message.{Message}
use Rattle.ra_stamp.specs.declared.message.Message.TheVariants.{Request}
use Rattle.ra_stamp.specs.Stamp.{IsEarlier}
use Rattle.ra_automaton.specs.State.{IsOtherNode}
use Rattle.ra_table.specs.Table.{LockTable, TableRun, Excludes}
use Rattle.ra_table.specs.Laws.{IsAt}
use Rattle.ra_world.specs.declared.step.Step.TheVariants.{Deliver}
use Rattle.ra_world.specs.Traffic.{Move, IsUnderWay, lost_by}
use Rattle.ra_world.specs.Run.{marks_of}

-- the REQUEST of the entry to this node
abbrev pub request_to : ℕ → Entry → Message
request_to node e = Request e.stamp.node node e.name e.mode e.stamp.seq

-- these moves delivered the entry's REQUEST to this node
abbrev pub HasArrivedAt : ℕ → List Move → Entry → Type 0
HasArrivedAt node moves e = Contains (map (λ move. move.step) moves) (Deliver (request_to node e))

-- no REQUEST of the entry is under way after these moves, not even a copy, and they lost none
pub record NoneIsMissing (moves : List Move) (e : Entry) : Type 0 where
  pub none_under_way : (node : ℕ) → IsUnderWay moves (request_to node e) → ⊥
  pub none_lost : (node : ℕ) → Contains (lost_by moves) (request_to node e) → ⊥

-- at this place of the marks f enters, which is another entry that excludes e, and e still waits: at no earlier place
-- it has entered or was withdrawn
pub record Overtakes (marks : List Mark) (place : ℕ) (f e : Entry) : Type 0 where
  pub other : f ≢ e
  pub excludes : Excludes f e
  pub enters : IsAt marks place (Entered f)
  pub not_yet : (earlier : ℕ) → earlier < place → IsAt marks earlier (Entered e) → ⊥
  pub not_withdrawn : (earlier : ℕ) → earlier < place → IsAt marks earlier (Withdrawn e) → ⊥

-- The later moves are fair to an entry that waits in the table after the first moves.
pub record IsFairTo (n : ℕ) (before : List Move) (table : LockTable) (e : Entry) (later : List Move) : Type 0 where
  -- whoever overtakes e is of another node, and has an earlier stamp
  pub elsewhere : (place : ℕ) (f : Entry) → Overtakes (marks_of later) place f e
      → IsOtherNode e.stamp.node n f.stamp.node
  pub earlier : (place : ℕ) (f : Entry) → Overtakes (marks_of later) place f e → IsEarlier f.stamp e.stamp
  -- if e's REQUEST has arrived at that node, whoever overtakes waits in the table, too, and the node does so once at
  -- most
  pub waits : (place : ℕ) (f : Entry) → Overtakes (marks_of later) place f e → HasArrivedAt f.stamp.node before e
      → Contains table.waiting f
  pub once : (i j : ℕ) (f g : Entry) → Overtakes (marks_of later) i f e → Overtakes (marks_of later) j g e
      → f.stamp.node ≡ g.stamp.node → HasArrivedAt f.stamp.node before e → i ≡ j
  -- and e's REQUEST has arrived at each other node if none is missing
  pub arrived : NoneIsMissing before e → (node : ℕ) → IsOtherNode e.stamp.node n node → HasArrivedAt node before e

-- a run of n nodes is fair to each entry that waits, wherever it is cut in two
abbrev pub IsFair : ℕ → List Move → Type 0
IsFair n moves = (before later : List Move) (table : LockTable) (e : Entry) → moves ≡ before ++ later
    → TableRun (marks_of before) table → Contains table.waiting e → IsFairTo n before table e later
