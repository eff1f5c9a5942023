-- Which statuses there are.
use Rattle.std.proofs.Common.{◌≡◌, ◌≢◌, ◌≤◌, ℕ, arith}

pub at_most_3 : (status : ℕ) → status ≤ 2 → status ≤ 3
at_most_3 status h = omega arith

pub none_of_done : {A : Type 0} (status : ℕ) → 1 ≤ status → status ≡ 0 → A
none_of_done status h is = absurd (omega (arith, h, is))

pub none_of_3 : {A : Type 0} (status : ℕ) → status ≤ 2 → status ≡ 3 → A
none_of_3 status h is = absurd (omega (arith, h, is))

pub neither : {A : Type 0} (status : ℕ) → 1 ≤ status → status ≤ 2 → status ≢ 1 → status ≢ 2 → A
neither status some few not_1 not_2 = absurd (omega (arith, some, few, not_1, not_2))

-- ---- What a status is not that is known

pub done_at_most_3 : (status : ℕ) → status ≡ 0 → status ≤ 3
done_at_most_3 status h = omega arith

pub left_at_most_3 : (status : ℕ) → status ≡ 3 → status ≤ 3
left_at_most_3 status h = omega arith

pub done_not_1 : {A : Type 0} (status : ℕ) → status ≡ 0 → status ≡ 1 → A
done_not_1 status h is = absurd (omega (arith, h, is))

pub done_not_2 : {A : Type 0} (status : ℕ) → status ≡ 0 → status ≡ 2 → A
done_not_2 status h is = absurd (omega (arith, h, is))

pub done_not_3 : {A : Type 0} (status : ℕ) → status ≡ 0 → status ≡ 3 → A
done_not_3 status h is = absurd (omega (arith, h, is))

pub left_not_0 : {A : Type 0} (status : ℕ) → status ≡ 3 → status ≡ 0 → A
left_not_0 status h is = absurd (omega (arith, h, is))

pub left_not_1 : {A : Type 0} (status : ℕ) → status ≡ 3 → status ≡ 1 → A
left_not_1 status h is = absurd (omega (arith, h, is))

pub left_not_2 : {A : Type 0} (status : ℕ) → status ≡ 3 → status ≡ 2 → A
left_not_2 status h is = absurd (omega (arith, h, is))

pub broken_at_most_3 : (status : ℕ) → status ≡ 1 → status ≤ 3
broken_at_most_3 status h = omega arith

pub broken_at_most_2 : (status : ℕ) → status ≡ 1 → status ≤ 2
broken_at_most_2 status h = omega arith

pub broken_at_least_1 : (status : ℕ) → status ≡ 1 → 1 ≤ status
broken_at_least_1 status h = omega arith

pub broken_not_2 : {A : Type 0} (status : ℕ) → status ≡ 1 → status ≡ 2 → A
broken_not_2 status h is = absurd (omega (arith, h, is))

pub broken_not_0 : {A : Type 0} (status : ℕ) → status ≡ 1 → status ≡ 0 → A
broken_not_0 status h is = absurd (omega (arith, h, is))

pub broken_not_3 : {A : Type 0} (status : ℕ) → status ≡ 1 → status ≡ 3 → A
broken_not_3 status h is = absurd (omega (arith, h, is))
