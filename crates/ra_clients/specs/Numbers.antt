-- The numbers by which the book knows clients: which are used, and which is the least that is not.
use Rattle.std.specs.Prelude.{◌≡◌, ℕ, ◌<◌, ◌^◌, Bool, true, false, ◌&&◌, ◌||◌, not, nat_lt}
use Rattle.std.specs.BTreeSet.{BTreeSet, contains}
use Rattle.std.specs.Ordering.{nat_cmp}

-- A number is used if it is below the next one and is not free again, or if a client of before the start has it.
abbrev pub is_used_in : ℕ → BTreeSet ℕ → BTreeSet ℕ → ℕ → Bool
is_used_in next free before number =
    (nat_lt number next && not (contains nat_cmp free number)) || contains nat_cmp before number

-- what is always so: the numbers that are free again are below the next one, and no client has one of them
abbrev pub AreFree : ℕ → BTreeSet ℕ → BTreeSet ℕ → Type 0
AreFree next free before =
    (number : ℕ) → contains nat_cmp free number ≡ true → (number < next) × (contains nat_cmp before number ≡ false)

-- each of these is a number that a client can have
abbrev pub AreWithin : BTreeSet ℕ → Type 0
AreWithin before = (number : ℕ) → contains nat_cmp before number ≡ true → number < 2 ^ 32
