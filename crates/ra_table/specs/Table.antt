-- The lock table, which is what a user of the cluster believes in. It knows no messages, REPLYs, deferrals or queues.
use Rattle.std.specs.Prelude.{◌≡◌, ◌<◌, List, [], ◌∷◌, ◌++◌, All, Contains}
use Rattle.ra_stamp.specs.declared.entry.Entry.{Entry}
use Rattle.ra_stamp.specs.declared.entry.Mark.{Mark}
use Rattle.ra_stamp.specs.declared.entry.Mark.TheVariants.{Requested, Entered, Left, Withdrawn}
use Rattle.ra_stamp.specs.Mode.{Conflict}
use Rattle.ra_stamp.specs.Stamp.{IsEarlier}

-- the entries that wait, those that hold, and all that were granted so far
pub record LockTable : Type 0 where
  pub waiting : List Entry
  pub holding : List Entry
  pub granted : List Entry

-- the table in which no entry waits or holds, and no entry was granted
abbrev pub empty_table : LockTable
empty_table = record { waiting = []; holding = []; granted = [] }

-- two entries exclude each other if they are on one name and their modes conflict
abbrev pub Excludes : Entry → Entry → Type 0
Excludes a b = (a.name ≡ b.name) × Conflict a.mode b.mode

-- the new list is the old one with one more entry inserted somewhere
abbrev pub Gains : List Entry → Entry → List Entry → Type 0
Gains old e new =
    (prefix : List Entry) × (rest : List Entry) × (old ≡ prefix ++ rest) × (new ≡ prefix ++ e ∷ rest)

-- the new list is the old one with one entry removed
abbrev pub Loses : List Entry → Entry → List Entry → Type 0
Loses old e new = Gains new e old

-- the list has no entry of the same node on the same name
abbrev pub IsNodeFree : Entry → List Entry → Type 0
IsNodeFree e = All (λ x. x.name ≡ e.name → x.stamp.node ≡ e.stamp.node → ⊥)

-- a request may be made if its node neither waits nor holds on its name, and its number is above each number granted on
-- the name so far; any such number is allowed
pub record MayRequest (table : LockTable) (e : Entry) : Type 0 where
  pub not_waiting : IsNodeFree e table.waiting
  pub not_holding : IsNodeFree e table.holding
  pub above : All (λ x. x.name ≡ e.name → x.stamp.seq < e.stamp.seq) table.granted

-- a waiting entry may be granted if no entry that excludes it holds, and no earlier one that excludes it waits
pub record MayEnter (table : LockTable) (e : Entry) : Type 0 where
  pub waits : Contains table.waiting e
  pub not_held : All (λ x. Excludes x e → ⊥) table.holding
  pub no_earlier : All (λ x. Excludes x e → IsEarlier x.stamp e.stamp → ⊥) table.waiting

-- the mark leads from the old table to the new one; an entry leaves only if it holds, and is withdrawn only if it waits
abbrev pub TableStep : LockTable → Mark → LockTable → Type 0
TableStep old (Requested e) new =
    MayRequest old e × Gains old.waiting e new.waiting
    × (new.holding ≡ old.holding) × (new.granted ≡ old.granted)
TableStep old (Entered e) new =
    MayEnter old e × Loses old.waiting e new.waiting
    × Gains old.holding e new.holding × Gains old.granted e new.granted
TableStep old (Left e) new =
    Contains old.holding e × (new.waiting ≡ old.waiting)
    × Loses old.holding e new.holding × (new.granted ≡ old.granted)
TableStep old (Withdrawn e) new =
    Contains old.waiting e × Loses old.waiting e new.waiting
    × (new.holding ≡ old.holding) × (new.granted ≡ old.granted)

-- these marks lead from one table to another, each by a table step
abbrev pub TableSteps : LockTable → List Mark → LockTable → Type 0
TableSteps old [] new = new ≡ old
TableSteps old (mark ∷ marks) new = (next : LockTable) × TableStep old mark next × TableSteps next marks new

-- a run of the lock table: these marks lead from the empty table to this one
abbrev pub TableRun : List Mark → LockTable → Type 0
TableRun marks table = TableSteps empty_table marks table
