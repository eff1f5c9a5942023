-- What the marks of a run are to be if clients did the operations of a script.
use Rattle.std.specs.Prelude.{◌≡◌, ℕ, ◌==◌, Bool, true, false, List, [], ◌∷◌, Option, Some, None}
use Rattle.std.specs.List.{filter}
use Rattle.ra_stamp.specs.declared.entry.Entry.{Entry}
use Rattle.ra_stamp.specs.declared.entry.Mark.{Mark}
use Rattle.ra_stamp.specs.declared.entry.Mark.TheVariants.{Requested, Entered, Left}
use Rattle.ra_stamp.specs.Mark.{entry_of_mark}
use Rattle.ra_schedule.specs.declared.script.Op.{Op}
use Rattle.ra_schedule.specs.declared.script.Op.TheVariants.{Lock, Unlock}
use Rattle.ra_schedule.specs.Script.{ScriptState, ScriptClient, client_at}

-- the client of the request that a mark is about
abbrev pub client_of_mark : Mark → ℕ
client_of_mark mark = (entry_of_mark mark).client

-- the marks that name a client, in order
abbrev pub marks_of_client : ℕ → List Mark → List Mark
marks_of_client client marks = filter (λ mark. client_of_mark mark == client) marks

-- a request is at this node, for this name
abbrev pub IsRequestFor : ℕ → List ℕ → Entry → Type 0
IsRequestFor node name entry = (entry.stamp.node ≡ node) × (entry.name ≡ name)

-- A mark is the next one of an operation at a node: a lock is requested and then entered, and an unlock leaves.
-- `requested` says whether it is requested already.
abbrev pub IsNextMark : ℕ → Op → Bool → Mark → Type 0
IsNextMark node (Lock name mode) false (Requested entry) = IsRequestFor node name entry × (entry.mode ≡ mode)
IsNextMark node (Lock name mode) true (Entered entry) = IsRequestFor node name entry × (entry.mode ≡ mode)
IsNextMark node (Unlock name) false (Left entry) = IsRequestFor node name entry
IsNextMark node op requested mark = ⊥

-- the marks are the marks of these operations at a node, in order
abbrev pub FollowsOps : ℕ → List Op → List Mark → Type 0
FollowsOps node [] [] = Unit {0}
FollowsOps node (Lock name mode ∷ ops) (first ∷ second ∷ marks) =
    IsNextMark node (Lock name mode) false first × IsNextMark node (Lock name mode) true second
    × FollowsOps node ops marks
FollowsOps node (Unlock name ∷ ops) (first ∷ marks) =
    IsNextMark node (Unlock name) false first × FollowsOps node ops marks
FollowsOps node ops marks = ⊥

-- if the client exists, these marks are the marks of its operations, and otherwise there are no marks
abbrev pub MeetsPlanOf : Option ScriptClient → List Mark → Type 0
MeetsPlanOf (Some c) marks = FollowsOps c.node c.ops marks
MeetsPlanOf None marks = marks ≡ []

-- the marks that name a client are the marks of its operations in order at its node, Requested and Entered for each
-- lock and Left for each unlock; no mark names a client that does not exist
abbrev pub MeetsPlan : ScriptState → List Mark → Type 0
MeetsPlan script marks = (client : ℕ) → MeetsPlanOf (client_at script client) (marks_of_client client marks)
