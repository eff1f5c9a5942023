-- Quiet moments: nothing was lost, and nothing is under way, not even a copy.
use Rattle.std.specs.Prelude.{◌≡◌, ◌⊎◌, ℕ, ◌+◌, ◌-◌, ◌*◌, List, [], ◌∷◌, length}
use Rattle.ra_stamp.specs.declared.entry.Entry.{Entry}
use Rattle.ra_stamp.specs.declared.entry.Mark.{Mark}
use Rattle.ra_stamp.specs.declared.entry.Mark.TheVariants.{Requested, Entered, Left, Withdrawn}
use Rattle.ra_table.specs.Table.{LockTable}
use Rattle.ra_table.specs.Refusals.{IsHeld, HasEarlier}
use Rattle.ra_world.specs.Traffic.{Move, sent_by, lost_by, LeavesUnderWay}
use Rattle.ra_world.specs.Run.{marks_of}

-- these steps lost no message, and leave no message under way, not even a copy
pub record IsQuiet (moves : List Move) : Type 0 where
  pub none_lost : lost_by moves ≡ []
  pub none_under_way : LeavesUnderWay moves []

-- the entry is blocked: an entry that excludes it holds, or waits with an earlier stamp
abbrev pub IsBlocked : LockTable → Entry → Type 0
IsBlocked table e = IsHeld table e ⊎ HasEarlier table e

-- how many requests were made, by these marks
abbrev pub requests_in : List Mark → ℕ
requests_in [] = 0
requests_in (Requested e ∷ marks) = requests_in marks + 1
requests_in (Entered e ∷ marks) = requests_in marks
requests_in (Left e ∷ marks) = requests_in marks
requests_in (Withdrawn e ∷ marks) = requests_in marks

-- how many requests were withdrawn, by these marks
abbrev pub withdrawn_in : List Mark → ℕ
withdrawn_in [] = 0
withdrawn_in (Requested e ∷ marks) = withdrawn_in marks
withdrawn_in (Entered e ∷ marks) = withdrawn_in marks
withdrawn_in (Left e ∷ marks) = withdrawn_in marks
withdrawn_in (Withdrawn e ∷ marks) = withdrawn_in marks + 1

-- exactly two messages were sent for each request and other node
abbrev pub MeetsMessageCount : ℕ → List Move → Type 0
MeetsMessageCount n moves = length (sent_by moves) ≡ 2 * (n - 1) * requests_in (marks_of moves)
