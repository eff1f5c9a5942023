-- Lists that gain or lose an entry.
use Rattle.std.proofs.Common.{◌≡◌, ℕ, ◌<◌, suc, List, [], ◌∷◌, ◌++◌, length, get_or, take, drop, Contains, refl, sym}
use Rattle.std.specs.List.{remove}
use Rattle.std.proofs.lemmas.List.{append-nil}
use Rattle.ra_stamp.proofs.Places.{split_at}
use Rattle.ra_stamp.specs.declared.entry.Entry.{Entry}
use Rattle.ra_table.specs.Table.{LockTable, Gains, Loses}

-- the table of these entries
abbrev pub of_parts : List Entry → List Entry → List Entry → LockTable
of_parts waiting holding granted = record { waiting = waiting; holding = holding; granted = granted }

pub Gains-push : (xs : List Entry) (e : Entry) → Gains xs e (xs ++ e ∷ [])
Gains-push xs e = (xs, [], sym (append-nil xs), refl)

pub Loses-remove : (xs : List Entry) (i : ℕ) (e : Entry) → i < length xs → get_or xs i e ≡ e → Loses xs e (remove xs i)
Loses-remove xs i e lt is = (take i xs, drop (suc i) xs, refl, split_at xs i e lt is)

pub Loses-contained : (xs : List Entry) (e : Entry) → Contains xs e → (rest : List Entry) × Loses xs e rest
Loses-contained xs e at = (remove xs at.0, Loses-remove xs at.0 e at.1 at.2)
