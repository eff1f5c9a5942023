-- One item of a list after the other, as a loop takes them.
use Rattle.std.proofs.Common.{◌≡◌, ◌+◌, ◌<◌, ◌≤◌, ℕ, zero, suc, List, [], ◌∷◌, ◌++◌, length, get_or, take, fold, refl, sym, ap, ◌∙◌, append_assoc, arith}
use Rattle.std.specs.Prelude.{sum_by}
use Rattle.std.proofs.lemmas.List.{take_more, take_all}

-- the next item was added
pub next_added : {X : Type 0} (old mid new items : List X) (i : ℕ) (x : X) → mid ≡ old ++ take i items → new ≡ mid ++ x ∷ [] → i < length items → x ≡ get_or items i x
    → new ≡ old ++ take (i + 1) items
next_added {X} old mid new items i x so_far more within is =
    let next : take (i + 1) items ≡ take i items ++ x ∷ [] = take_more items i x within ∙ ap (λ (y : X). take i items ++ y ∷ []) (sym is) in
    more ∙ ap (λ (xs : List X). xs ++ x ∷ []) so_far ∙ append_assoc old (take i items) (x ∷ []) ∙ ap (λ (xs : List X). old ++ xs) (sym next)

-- all items were added
pub all_added : {X : Type 0} (old new items : List X) (i : ℕ) → new ≡ old ++ take i items → length items ≤ i → new ≡ old ++ items
all_added {X} old new items i so_far past = so_far ∙ ap (λ (xs : List X). old ++ xs) (take_all i items past)

-- from any number on, the last item is counted last
sum_push : {X : Type 0} (f : X → ℕ) (from : ℕ) (xs : List X) (x : X)
    → fold (λ (sum : ℕ) (y : X). sum + f y) from (xs ++ x ∷ []) ≡ fold (λ (sum : ℕ) (y : X). sum + f y) from xs + f x
sum_push f from [] x = refl
sum_push f from (y ∷ ys) x = sum_push f (from + f y) ys x

-- the next item is counted
pub sum_next : {X : Type 0} (f : X → ℕ) (xs : List X) (i : ℕ) (x : X) → i < length xs → x ≡ get_or xs i x → sum_by f (take (i + 1) xs) ≡ sum_by f (take i xs) + f x
sum_next {X} f xs i x within is =
    ap (sum_by f) (take_more xs i x within ∙ ap (λ (y : X). take i xs ++ y ∷ []) (sym is)) ∙ sum_push f 0 (take i xs) x

sum_from : {X : Type 0} (f : X → ℕ) (from : ℕ) (xs : List X) → from ≤ fold (λ (sum : ℕ) (y : X). sum + f y) from xs
sum_from f from [] = omega arith
sum_from f from (y ∷ ys) = omega (arith, sum_from f (from + f y) ys)

sum_so_far : {X : Type 0} (f : X → ℕ) (from : ℕ) (xs : List X) (i : ℕ)
    → fold (λ (sum : ℕ) (y : X). sum + f y) from (take i xs) ≤ fold (λ (sum : ℕ) (y : X). sum + f y) from xs
sum_so_far f from xs zero = sum_from f from xs
sum_so_far f from [] (suc i) = omega arith
sum_so_far f from (y ∷ ys) (suc i) = sum_so_far f (from + f y) ys i
