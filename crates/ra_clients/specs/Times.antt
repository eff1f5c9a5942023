-- The times at which clients give up names.
use Rattle.std.specs.Prelude.{◌≡◌, ℕ, ◌==◌, Bool, true, false, List, Option, Some, None}
use Rattle.std.specs.BTreeSet.{BTreeSet, contains}
use Rattle.std.specs.Ordering.{nat_cmp, ordering_then}
use Rattle.std.specs.Cmp.Lexicographic.{slice_cmp}
use Rattle.std.specs.declared.cmp.Ordering.{Ordering}

-- a time, the number of a client, and a name
abbrev pub End : Type 0
End = (ℕ × ℕ) × List ℕ

-- by the time, then by the client, and then by the name
abbrev pub end_cmp : End → End → Ordering
end_cmp a b = ordering_then (ordering_then (nat_cmp a.0.0 b.0.0) (nat_cmp a.0.1 b.0.1)) (slice_cmp nat_cmp a.1 b.1)

-- whether the client gives the name up at this time
abbrev pub ends_at : BTreeSet End → ℕ → ℕ → List ℕ → Bool
ends_at ends until number name = contains end_cmp ends ((until, number), name)

-- whether this is the time, if there is one
abbrev pub is_end : ℕ → Option ℕ → Bool
is_end time None = false
is_end time (Some until) = time == until

-- Whether the client gives the name up at this time, if it is one, changes to this. Nothing else does.
pub record Sets (old : BTreeSet End) (number : ℕ) (name : List ℕ) (until : Option ℕ) (gives_up : Bool)
    (new : BTreeSet End) : Type 0 where
  pub here : (time : ℕ) → is_end time until ≡ true → ends_at new time number name ≡ gives_up
  pub rest : (time : ℕ) → is_end time until ≡ false → ends_at new time number name ≡ ends_at old time number name
  pub others : (time k : ℕ) (n : List ℕ) → (k ≡ number → n ≡ name → ⊥) → ends_at new time k n ≡ ends_at old time k n

-- the same clients give up the same names at the same times
abbrev pub AreSameEnds : BTreeSet End → BTreeSet End → Type 0
AreSameEnds old new = (time k : ℕ) (n : List ℕ) → ends_at new time k n ≡ ends_at old time k n
