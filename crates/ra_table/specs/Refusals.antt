-- Why the lock table refuses an entry.
use Rattle.std.specs.Prelude.{◌≡◌, ◌≤◌, ◌⊎◌, Any}
use Rattle.ra_stamp.specs.declared.entry.Entry.{Entry}
use Rattle.ra_stamp.specs.Stamp.{IsEarlier}
use Rattle.ra_table.specs.Table.{LockTable, Excludes}

-- two entries are of one node and on one name
abbrev pub SharesNodeAndName : Entry → Entry → Type 0
SharesNodeAndName a b = (a.name ≡ b.name) × (a.stamp.node ≡ b.stamp.node)

-- the entry's node already waits or holds on its name
abbrev pub IsNodeBusy : LockTable → Entry → Type 0
IsNodeBusy table e =
    Any (λ x. SharesNodeAndName x e) table.waiting ⊎ Any (λ x. SharesNodeAndName x e) table.holding

-- an entry that was granted on its name has its number or a greater one
abbrev pub IsNotAbove : LockTable → Entry → Type 0
IsNotAbove table e = Any (λ x. (x.name ≡ e.name) × (e.stamp.seq ≤ x.stamp.seq)) table.granted

-- an entry that excludes it holds
abbrev pub IsHeld : LockTable → Entry → Type 0
IsHeld table e = Any (λ x. Excludes x e) table.holding

-- an earlier entry that excludes it waits
abbrev pub HasEarlier : LockTable → Entry → Type 0
HasEarlier table e = Any (λ x. Excludes x e × IsEarlier x.stamp e.stamp) table.waiting
