-- Numbers that are the same, and numbers that are apart.
use Rattle.std.proofs.Common.{◌≡◌, ◌≢◌, ◌⊎◌, ℕ, true, false, nat_eq, arith}
use Rattle.std.specs.Ordering.{nat_cmp, eq_by_cmp}
use Rattle.std.proofs.lemmas.Bool.Decides.{nat_tests}

pub eq_at : (m n : ℕ) → m ≡ n → nat_eq m n ≡ true
eq_at m n h = grind (arith, nat_tests)

pub eq_apart : (m n : ℕ) → m ≢ n → nat_eq m n ≡ false
eq_apart m n h = grind (arith, nat_tests)

pub tied : (a b : ℕ) → a ≡ b → eq_by_cmp nat_cmp a b ≡ true
tied a b e = grind (arith, nat_tests)

pub untied : (a b : ℕ) → a ≢ b → eq_by_cmp nat_cmp a b ≡ false
untied a b e = grind (arith, nat_tests)

pub cases_same : (a b : ℕ) → (a ≡ b) ⊎ (a ≢ b)
cases_same a b = grind (arith, nat_tests)
