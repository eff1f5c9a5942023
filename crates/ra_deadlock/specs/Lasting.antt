-- How long a circle lasts.
use Rattle.std.specs.Prelude.{◌≡◌, All, Contains, List}
use Rattle.ra_stamp.specs.declared.entry.Entry.{Entry}
use Rattle.ra_stamp.specs.declared.entry.Mark.{Mark}
use Rattle.ra_stamp.specs.declared.entry.Mark.TheVariants.{Requested, Entered, Left, Withdrawn}
use Rattle.ra_table.specs.Table.{LockTable, TableStep}
use Rattle.ra_deadlock.specs.declared.request.Stage.{Stage}
use Rattle.ra_deadlock.specs.declared.request.Stage.TheVariants.{Waits, Queued, Holds}
use Rattle.ra_deadlock.specs.declared.request.Request.{Request}
use Rattle.ra_deadlock.specs.Deadlock.{IsCircle}

-- the request of this entry waits in the table, or is granted there. The table does not know who is queued.
abbrev pub HasAt : LockTable → Stage → Entry → Type 0
HasAt table Waits entry = Contains table.waiting entry
HasAt table Queued entry = ⊥
HasAt table Holds entry = Contains table.holding entry

abbrev pub Has : LockTable → Request → Type 0
Has table request = HasAt table request.stage request.entry

-- the mark says that the request of this entry was given back, or given up
abbrev pub Ends : Mark → Entry → Type 0
Ends (Requested e) entry = ⊥
Ends (Entered e) entry = ⊥
Ends (Left e) entry = e ≡ entry
Ends (Withdrawn e) entry = e ≡ entry

-- If the requests of a circle wait in the table and are granted there, and none of them is given back or given up, they
-- wait and are granted there after a step, too. So none of those that wait is ever granted.
abbrev pub CirclesLast : Type 0
CirclesLast = (requests circle : List Request) (table next : LockTable) (mark : Mark)
    → IsCircle requests circle → All (Has table) circle → All (λ request. Ends mark request.entry → ⊥) circle
    → TableStep table mark next → All (Has next) circle
