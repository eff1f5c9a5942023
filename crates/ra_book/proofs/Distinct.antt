-- Lists whose elements are all different.
use Rattle.std.proofs.Common.{◌≡◌, ◌≢◌, ℕ, zero, suc, ◌+◌, ◌<◌, Bool, true, false, cond, List, [], ◌∷◌, ◌++◌, map, length, get_or, sym, ap, ◌∙◌, subst, arith}
use Rattle.std.specs.Prelude.{All, AllPairs, Contains}
use Rattle.std.specs.List.{filter}
use Rattle.std.proofs.lemmas.List.{length-append, length-map, get_or-map, get_or_append_left, get_or-append-add, get_or_default}
use Rattle.std.proofs.lemmas.List.Elements.{All-append, All-contains}
use Rattle.std.proofs.lemmas.List.Kept.{AllPairs-cons, AllPairs-filter}
use Rattle.ra_book.specs.Settled.{Repeats}

abbrev pub AreDifferent : {X : Type 0} → List X → Type 0
AreDifferent xs = AllPairs (λ a b. a ≢ b) xs

-- what does not repeat has no two equal elements
pub never_twice : {X : Type 0} (xs : List X) → (Repeats xs → ⊥) → AreDifferent xs
never_twice xs none i j d below within same =
    none (record {
      first = i;
      second = j;
      item = get_or xs i d;
      in_order = below;
      within = within;
      first_is = get_or_default xs i (get_or xs i d) d (omega (arith, below, within));
      second_is = get_or_default xs j (get_or xs i d) d within ∙ sym same;
    })

-- ---- In parts

pub all_left : {X : Type 0} (P : X → Type 0) (xs ys : List X) → All P (xs ++ ys) → All P xs
all_left P xs ys all k d low = subst P (get_or_append_left xs ys d k low) (all k d (omega (arith, low, length-append xs ys)))

pub all_right : {X : Type 0} (P : X → Type 0) (xs ys : List X) → All P (xs ++ ys) → All P ys
all_right P xs ys all k d low = subst P (get_or-append-add xs ys k d) (all (length xs + k) d (omega (arith, low, length-append xs ys)))

pub pairs_left : {X : Type 0} (R : X → X → Type 0) (xs ys : List X) → AllPairs R (xs ++ ys) → AllPairs R xs
pairs_left R xs ys pairs i j d below within =
    subst (λ x. R x (get_or xs j d)) (get_or_append_left xs ys d i (omega (arith, below, within)))
    (subst (λ x. R (get_or (xs ++ ys) i d) x) (get_or_append_left xs ys d j within) (pairs i j d below (omega (arith, within, length-append xs ys))))

pub pairs_right : {X : Type 0} (R : X → X → Type 0) (xs ys : List X) → AllPairs R (xs ++ ys) → AllPairs R ys
pairs_right R xs ys pairs i j d below within =
    subst (λ x. R x (get_or ys j d)) (get_or-append-add xs ys i d)
    (subst (λ x. R (get_or (xs ++ ys) (length xs + i) d) x) (get_or-append-add xs ys j d)
    (pairs (length xs + i) (length xs + j) d (omega (arith, below)) (omega (arith, within, length-append xs ys))))

-- of pairs the first one, with each that comes later
pub pairs_first : {X : Type 0} (R : X → X → Type 0) (x : X) (xs : List X) → AllPairs R (x ∷ xs) → All (R x) xs
pairs_first R x xs pairs k d low = pairs 0 (suc k) d (omega arith) (omega (arith, low))

pub pairs_rest : {X : Type 0} (R : X → X → Type 0) (x : X) (xs : List X) → AllPairs R (x ∷ xs) → AllPairs R xs
pairs_rest R x xs pairs i j d below within = pairs (suc i) (suc j) d (omega (arith, below)) (omega (arith, within))

pub pairs_joined : {X : Type 0} (R : X → X → Type 0) (xs ys : List X) → AllPairs R xs → AllPairs R ys → All (λ x. All (R x) ys) xs → AllPairs R (xs ++ ys)
pairs_joined R [] ys left right across = right
pairs_joined R (x ∷ xs) ys left right across =
    AllPairs-cons R x (xs ++ ys) (All-append (R x) xs ys (pairs_first R x xs left) (λ k d low. across 0 x (omega arith) k d low))
    (pairs_joined R xs ys (pairs_rest R x xs left) right (λ k d low. across (suc k) d (omega (arith, low))))

-- ---- Of values

pub all_of_map : {X Y : Type 0} (P : Y → Type 0) (f : X → Y) (xs : List X) → All P (map f xs) → All (λ x. P (f x)) xs
all_of_map P f xs all k d low = subst P (get_or-map f xs k d (f d) low) (all k (f d) (omega (arith, low, length-map xs f)))

pairs_of_map : {X Y : Type 0} (R : Y → Y → Type 0) (f : X → Y) (xs : List X) → AllPairs R (map f xs) → AllPairs (λ a b. R (f a) (f b)) xs
pairs_of_map R f xs pairs i j d below within =
    subst (λ y. R y (f (get_or xs j d))) (get_or-map f xs i d (f d) (omega (arith, below, within)))
    (subst (λ y. R (get_or (map f xs) i (f d)) y) (get_or-map f xs j d (f d) within) (pairs i j (f d) below (omega (arith, within, length-map xs f))))

all_map : {X Y : Type 0} (P : Y → Type 0) (f : X → Y) (xs : List X) → All (λ x. P (f x)) xs → All P (map f xs)
all_map P f [] all k d low = absurd (omega (arith, low))
all_map P f (x ∷ xs) all zero d low = all 0 x (omega arith)
all_map P f (x ∷ xs) all (suc k) d low = all_map P f xs (λ i e within. all (suc i) e (omega (arith, within))) k d (omega (arith, low))

pairs_map : {X Y : Type 0} (R : Y → Y → Type 0) (f : X → Y) (xs : List X) → AllPairs (λ a b. R (f a) (f b)) xs → AllPairs R (map f xs)
pairs_map R f [] pairs = λ i j d below within. absurd (omega (arith, within))
pairs_map R f (x ∷ xs) pairs =
    AllPairs-cons R (f x) (map f xs) (all_map (R (f x)) f xs (pairs_first (λ a b. R (f a) (f b)) x xs pairs))
    (pairs_map R f xs (pairs_rest (λ a b. R (f a) (f b)) x xs pairs))

-- if the values of all elements are different, so are the values of the elements that pass a test
pub different_kept : {X Y : Type 0} (f : X → Y) (p : X → Bool) (xs : List X) → AreDifferent (map f xs) → AreDifferent (map f (filter p xs))
different_kept f p xs different =
    pairs_map (λ a b. a ≢ b) f (filter p xs) (AllPairs-filter (λ a b. f a ≢ f b) p xs (pairs_of_map (λ a b. a ≢ b) f xs different))

pub in_map : {X Y : Type 0} (f : X → Y) (xs : List X) (x : X) → Contains xs x → Contains (map f xs) (f x)
in_map f xs x is = (is.0, omega (arith, is.1, length-map xs f), get_or-map f xs is.0 x (f x) is.1 ∙ ap f is.2)

-- ---- By a test

kept_first : {X : Type 0} (p : X → Bool) (x : X) (xs : List X) (b : Bool) → p x ≡ b → AreDifferent (cond b (x ∷ filter p xs) (filter p xs)) → AreDifferent (filter p xs)
kept_first p x xs true e different = pairs_rest (λ a b. a ≢ b) x (filter p xs) different
kept_first p x xs false e different = different

-- what passes the test is among what passes it
pub passes_in : {X : Type 0} (p : X → Bool) (xs : List X) (x : X) → p x ≡ true → Contains xs x → Contains (filter p xs) x
passes_in p [] x e is = absurd (omega (arith, is.1))
passes_in p (y ∷ ys) x e (zero, low, same) =
    subst (λ b. Contains (cond b (y ∷ filter p ys) (filter p ys)) x) (sym (ap p same ∙ e)) (0, omega arith, same)
passes_in p (y ∷ ys) x e (suc k, low, same) = by_test (p y) (passes_in p ys x e (k, omega (arith, low), same))
  where
    by_test : (b : Bool) → Contains (filter p ys) x → Contains (cond b (y ∷ filter p ys) (filter p ys)) x
    by_test true (i, within, at) = (suc i, omega (arith, within), at)
    by_test false at = at

-- if those that pass a test are different, one that passes it is no later one
pub kept_apart : {X : Type 0} (p : X → Bool) (xs : List X) → AreDifferent (filter p xs) → (i j : ℕ) (d : X) → i < j → j < length xs → p (get_or xs i d) ≡ true → get_or xs i d ≢ get_or xs j d
kept_apart p [] different i j d below within e same = omega (arith, within)
kept_apart p (x ∷ xs) different i zero d below within e same = omega (arith, below)
kept_apart p (x ∷ xs) different zero (suc j) d below within e same =
    let here : AreDifferent (x ∷ filter p xs) = subst (λ b. AreDifferent (cond b (x ∷ filter p xs) (filter p xs))) e different in
    All-contains (λ y. x ≢ y) (filter p xs) x (pairs_first (λ a b. a ≢ b) x (filter p xs) here)
    (passes_in p xs x e (j, omega (arith, within), get_or_default xs j x d (omega (arith, within)) ∙ sym same)) (λ i. x)
kept_apart p (x ∷ xs) different (suc i) (suc j) d below within e same =
    kept_apart p xs (kept_first p x xs (p x) (λ i. p x) different) i j d (omega (arith, below)) (omega (arith, within)) e same
