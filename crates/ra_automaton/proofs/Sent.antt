-- The lists of messages, which grow by one message at a time.
use Rattle.std.proofs.Common.{◌≡◌, ◌≢◌, ℕ, zero, suc, ◌+◌, Bool, true, false, cond, not, List, [], ◌∷◌, ◌++◌, map, filter, refl, sym, ap, ◌∙◌, append_assoc, arith}
use Rattle.std.specs.Prelude.{◌==◌}
use Rattle.std.specs.List.{range_with_len}
use Rattle.std.proofs.lemmas.List.{append-nil}
use Rattle.std.proofs.lemmas.Bool.Decides.{nat_tests}

range_push : (first n : ℕ) → range_with_len first (suc n) ≡ range_with_len first n ++ (first + n) ∷ []
range_push first zero = ap (λ (x : ℕ). x ∷ []) (omega arith)
range_push first (suc n) =
    let next : (first + 1) + n ≡ first + suc n = omega arith in
    ap (λ (xs : List ℕ). first ∷ xs) (range_push (first + 1) n ∙ ap (λ (x : ℕ). range_with_len (first + 1) n ++ x ∷ []) next)

filter_push : (p : ℕ → Bool) (xs : List ℕ) (x : ℕ) → filter p (xs ++ x ∷ []) ≡ filter p xs ++ cond (p x) (x ∷ []) []
filter_push p [] x = elim (p x) as (λ b. cond b (x ∷ []) [] ≡ cond b (x ∷ []) []) [ true ↦ refl | false ↦ refl ]
filter_push p (y ∷ ys) x = elim (p y) as (λ b. cond b (y ∷ filter p (ys ++ x ∷ [])) (filter p (ys ++ x ∷ [])) ≡ cond b (y ∷ filter p ys) (filter p ys) ++ cond (p x) (x ∷ []) []) [
  | true ↦ ap (λ (zs : List ℕ). y ∷ zs) (filter_push p ys x)
  | false ↦ filter_push p ys x
]

map_push : {X Y : Type 0} (f : X → Y) (xs ys : List X) → map f (xs ++ ys) ≡ map f xs ++ map f ys
map_push f [] ys = refl
map_push f (x ∷ xs) ys = λ i. f x ∷ map_push f xs ys i

passing_push : (p : ℕ → Bool) (n : ℕ) → filter p (range_with_len 1 (suc n)) ≡ filter p (range_with_len 1 n) ++ cond (p (suc n)) (suc n ∷ []) []
passing_push p n =
    let next : 1 + n ≡ suc n = omega arith in
    ap (filter p) (range_push 1 n ∙ ap (λ (x : ℕ). range_with_len 1 n ++ x ∷ []) next)
    ∙ filter_push p (range_with_len 1 n) (suc n)

-- a node that passes, and its message
pub to_passing : {X : Type 0} (f : ℕ → X) (p : ℕ → Bool) (n : ℕ) (before sent now : List X) → sent ≡ before ++ map f (filter p (range_with_len 1 n)) → p (suc n) ≡ true → now ≡ sent ++ f (suc n) ∷ []
    → now ≡ before ++ map f (filter p (range_with_len 1 (suc n)))
to_passing f p n before sent now so_far passes more =
    let xs = filter p (range_with_len 1 n) in
    let next : filter p (range_with_len 1 (suc n)) ≡ xs ++ suc n ∷ [] = passing_push p n ∙ ap (λ b. xs ++ cond b (suc n ∷ []) []) passes in
    more ∙ ap (λ ys. ys ++ f (suc n) ∷ []) so_far ∙ append_assoc before (map f xs) (f (suc n) ∷ []) ∙ ap (λ ys. before ++ ys) (sym (ap (map f) next ∙ map_push f xs (suc n ∷ [])))

-- a node that does not
pub to_failing : {X : Type 0} (f : ℕ → X) (p : ℕ → Bool) (n : ℕ) (before sent : List X) → sent ≡ before ++ map f (filter p (range_with_len 1 n)) → p (suc n) ≡ false
    → sent ≡ before ++ map f (filter p (range_with_len 1 (suc n)))
to_failing f p n before sent so_far fails =
    let xs = filter p (range_with_len 1 n) in
    let next : filter p (range_with_len 1 (suc n)) ≡ xs = passing_push p n ∙ ap (λ b. xs ++ cond b (suc n ∷ []) []) fails ∙ append-nil xs in
    so_far ∙ ap (λ ys. before ++ map f ys) (sym next)

pub is_other : (n me : ℕ) → suc n ≢ me → not (suc n == me) ≡ true
is_other n me apart = grind (arith, nat_tests)

pub is_itself : (n me : ℕ) → suc n ≡ me → not (suc n == me) ≡ false
is_itself n me same = grind (arith, nat_tests)

-- ---- The messages to the deferred nodes.

pub map-entries : {X : Type 0} (f : ℕ × ℕ → X) (v : ℕ → ℕ) (nodes : List ℕ) → map f (map (λ node. (node, v node)) nodes) ≡ map (λ node. f (node, v node)) nodes
map-entries f v [] = refl
map-entries f v (node ∷ nodes) = λ i. f (node, v node) ∷ map-entries f v nodes i
