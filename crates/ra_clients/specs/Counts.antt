-- How many connections have a number.
use Rattle.std.specs.Prelude.{◌≡◌, ℕ, ◌+◌, ◌≤◌, zero, suc, Option, Some, None}
use Rattle.ra_clients.specs.Clients.{Clients}

abbrev pub one_if_some : Option ℕ → ℕ
one_if_some None = 0
one_if_some (Some number) = 1

-- how many connections below this one have a number
abbrev pub numbered_below : (ℕ → Option ℕ) → ℕ → ℕ
numbered_below number_of zero = 0
numbered_below number_of (suc c) = numbered_below number_of c + one_if_some (number_of c)

-- `count` is how many connections have a number: so many of those below the bound, and none from the bound on
pub record IsCounted (s : Clients) : Type 0 where
  pub bound : ℕ
  pub none_later : (c : ℕ) → bound ≤ c → s.number_of c ≡ None
  pub count_is : s.count ≡ numbered_below s.number_of bound
