-- Which numbers of clients are used.
use Rattle.std.specs.Prelude.{◌≡◌, ◌≢◌, ℕ, ◌<◌, ◌^◌, Bool, true, false}
use Rattle.std.specs.BTreeSet.{contains}
use Rattle.std.specs.Ordering.{nat_cmp}
use Rattle.ra_clients.specs.declared.numbers.Numbers.{Numbers}
use Rattle.ra_clients.specs.Numbers.{is_used_in}

-- whether a client has the number
abbrev pub is_used : Numbers → ℕ → Bool
is_used n number = is_used_in n.next n.free n.before number

-- whether a client of before the start has the number
abbrev pub is_before : Numbers → ℕ → Bool
is_before n number = contains nat_cmp n.before number

-- the number is the least that no client has
pub record IsLeastFree (n : Numbers) (number : ℕ) : Type 0 where
  pub free : is_used n number ≡ false
  pub least : (other : ℕ) → other < number → is_used n other ≡ true

-- the other numbers are used as before
abbrev pub OthersStay : Numbers → ℕ → Numbers → Type 0
OthersStay old number new = (other : ℕ) → other ≢ number → is_used new other ≡ is_used old other

-- the same numbers are used, and clients of before the start have the same
pub record AreSameNumbers (old new : Numbers) : Type 0 where
  pub used : (number : ℕ) → is_used new number ≡ is_used old number
  pub before : (number : ℕ) → is_before new number ≡ is_before old number

-- now a new client has the number
pub record Takes (old : Numbers) (number : ℕ) (new : Numbers) : Type 0 where
  pub used : is_used new number ≡ true
  pub others : OthersStay old number new
  pub before : (other : ℕ) → is_before new other ≡ is_before old other

-- now a client of before the start has the number
pub record Keeps (old : Numbers) (number : ℕ) (new : Numbers) : Type 0 where
  pub used : is_used new number ≡ true
  pub others : OthersStay old number new
  pub is_kept : is_before new number ≡ true
  pub before : (other : ℕ) → other ≢ number → is_before new other ≡ is_before old other

-- now no client has the number
pub record GivesBack (old : Numbers) (number : ℕ) (new : Numbers) : Type 0 where
  pub unused : is_used new number ≡ false
  pub others : OthersStay old number new
  pub not_kept : is_before new number ≡ false
  pub before : (other : ℕ) → other ≢ number → is_before new other ≡ is_before old other

-- no number is left
abbrev pub AreAllUsed : Numbers → Type 0
AreAllUsed n = (number : ℕ) → number < 2 ^ 32 → is_used n number ≡ true
