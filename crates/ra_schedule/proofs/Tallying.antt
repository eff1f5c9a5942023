-- What is counted in outcomes, with another one at the end.
use Rattle.std.proofs.Common.{◌≡◌, ◌⊎◌, ◌≤◌, ◌<◌, ◌^◌, ℕ, zero, suc, ◌+◌, min, max, Bool, true, false, Option, Some, None, List, [], ◌∷◌, ◌++◌, length, map, refl, sym, ap, subst, ◌∙◌, arith, inl, inr}
use Rattle.std.specs.Prelude.{All, Contains, filter, flat_map, option_map, IfSome}
use Rattle.std.specs.List.{position_from}
use Rattle.std.proofs.lemmas.Bool.{cases_Bool, cases_lt, cond-true, cond-false}
use Rattle.std.proofs.lemmas.List.{append-nil, length-append, map-append}
use Rattle.std.proofs.lemmas.List.Concat.{flat_map-append}
use Rattle.std.proofs.lemmas.List.Elements.{filter-append, All-push, Contains-append_left, Contains-push}
use Rattle.ra_schedule.specs.declared.surveys.seed_outcomes.RunCost.{RunCost}
use Rattle.ra_schedule.specs.declared.surveys.seed_outcomes.SeedOutcome.{SeedOutcome}
use Rattle.ra_schedule.specs.declared.surveys.seed_outcomes.Tally.{Tally}
use Rattle.ra_schedule.specs.declared.surveys.seed_outcomes.Spread.{Spread}
use Rattle.ra_schedule.specs.Survey.{tally_of, tally_with, figures_of, IsLeastAndMost}

-- ---- The first that passes

first_kept : {X : Type 0} (test : X → Bool) (i : ℕ) (xs : List X) (x : X) (s : ℕ) → position_from test i xs ≡ Some s
    → position_from test i (xs ++ x ∷ []) ≡ Some s
first_kept test i [] x s e = absurd cc
first_kept test i (y ∷ ys) x s e =
    elim (cases_Bool (test y)) [
      | inl passes ↦ cond-true (test y) (Some i) (position_from test (i + 1) (ys ++ x ∷ [])) passes
          ∙ (sym (cond-true (test y) (Some i) (position_from test (i + 1) ys) passes) ∙ e)
      | inr fails ↦ cond-false (test y) (Some i) (position_from test (i + 1) (ys ++ x ∷ [])) fails
          ∙ first_kept test (i + 1) ys x s (sym (cond-false (test y) (Some i) (position_from test (i + 1) ys) fails) ∙ e)
    ]

none_in : {X : Type 0} (test : X → Bool) (i : ℕ) (y : X) (ys : List X) → position_from test i (y ∷ ys) ≡ None
    → (test y ≡ false) × (position_from test (i + 1) ys ≡ None)
none_in test i y ys e =
    elim (cases_Bool (test y)) [
      | inl passes ↦ let some = cond-true (test y) (Some i) (position_from test (i + 1) ys) passes in absurd cc
      | inr fails ↦ (fails, sym (cond-false (test y) (Some i) (position_from test (i + 1) ys) fails) ∙ e)
    ]

first_new : {X : Type 0} (test : X → Bool) (i : ℕ) (xs : List X) (x : X) → position_from test i xs ≡ None → test x ≡ true
    → position_from test i (xs ++ x ∷ []) ≡ Some (i + length xs)
first_new test i [] x e passes = cond-true (test x) (Some i) None passes ∙ ap Some (omega arith)
first_new test i (y ∷ ys) x e passes =
    let (fails, rest) = none_in test i y ys e in
    cond-false (test y) (Some i) (position_from test (i + 1) (ys ++ x ∷ [])) fails
    ∙ (first_new test (i + 1) ys x rest passes ∙ ap Some (omega arith))

first_none : {X : Type 0} (test : X → Bool) (i : ℕ) (xs : List X) (x : X) → position_from test i xs ≡ None → test x ≡ false
    → position_from test i (xs ++ x ∷ []) ≡ None
first_none test i [] x e fails = cond-false (test x) (Some i) None fails
first_none test i (y ∷ ys) x e fails =
    let (not, rest) = none_in test i y ys e in
    cond-false (test y) (Some i) (position_from test (i + 1) (ys ++ x ∷ [])) not ∙ first_none test (i + 1) ys x rest fails

-- ---- How many pass

none_pass : {X : Type 0} (test : X → Bool) (i : ℕ) (xs : List X) → position_from test i xs ≡ None → filter test xs ≡ []
none_pass test i [] e = refl
none_pass test i (y ∷ ys) e =
    let (fails, rest) = none_in test i y ys e in
    cond-false (test y) (y ∷ filter test ys) (filter test ys) fails ∙ none_pass test (i + 1) ys rest

one_passes : {X : Type 0} (test : X → Bool) (xs : List X) (x : X) → test x ≡ true
    → length (filter test (xs ++ x ∷ [])) ≡ length (filter test xs) + 1
one_passes test xs x passes =
    let whole = ap length (filter-append test xs (x ∷ [])) in
    let last : filter test (x ∷ []) ≡ x ∷ [] = cond-true (test x) (x ∷ []) [] passes in
    omega (arith, whole, ap length last, length-append (filter test xs) (filter test (x ∷ [])))

none_passes : {X : Type 0} (test : X → Bool) (xs : List X) (x : X) → test x ≡ false → filter test (xs ++ x ∷ []) ≡ filter test xs
none_passes test xs x fails =
    filter-append test xs (x ∷ []) ∙ (ap (λ ys. filter test xs ++ ys) (cond-false (test x) (x ∷ []) [] fails) ∙ append-nil (filter test xs))

-- ---- The tally

abbrev tally_from : (SeedOutcome → Bool) → List SeedOutcome → ℕ → Tally
tally_from test outcomes seed = record { seeds = length (filter test outcomes); first = seed }

more_by : (test : SeedOutcome → Bool) (first : ℕ) (outcomes : List SeedOutcome) (outcome : SeedOutcome) (place : Option ℕ)
    → position_from test first outcomes ≡ place → test outcome ≡ true
    → tally_of test first (outcomes ++ outcome ∷ []) ≡ Some (tally_with (tally_of test first outcomes) (first + length outcomes))
more_by test first outcomes outcome None e passes =
    let all = outcomes ++ outcome ∷ [] in
    let seed = first + length outcomes in
    let new : tally_of test first all ≡ Some (tally_from test all seed) = ap (option_map (tally_from test all)) (first_new test first outcomes outcome e passes) in
    let old : tally_of test first outcomes ≡ None = ap (option_map (tally_from test outcomes)) e in
    let one : length (filter test all) ≡ 1 = omega (arith, one_passes test outcomes outcome passes, ap length (none_pass test first outcomes e)) in
    new ∙ (ap (λ (n : ℕ). Some (record { seeds = n; first = seed })) one ∙ ap (λ t. Some (tally_with t seed)) (sym old))
more_by test first outcomes outcome (Some s) e passes =
    let all = outcomes ++ outcome ∷ [] in
    let seed = first + length outcomes in
    let new : tally_of test first all ≡ Some (tally_from test all s) = ap (option_map (tally_from test all)) (first_kept test first outcomes outcome s e) in
    let old : tally_of test first outcomes ≡ Some (tally_from test outcomes s) = ap (option_map (tally_from test outcomes)) e in
    new ∙ (ap (λ (n : ℕ). Some (record { seeds = n; first = s })) (one_passes test outcomes outcome passes)
    ∙ ap (λ t. Some (tally_with t seed)) (sym old))

-- another one that passes
pub one_more : (test : SeedOutcome → Bool) (first : ℕ) (outcomes : List SeedOutcome) (outcome : SeedOutcome) → test outcome ≡ true
    → tally_of test first (outcomes ++ outcome ∷ []) ≡ Some (tally_with (tally_of test first outcomes) (first + length outcomes))
one_more test first outcomes outcome passes = more_by test first outcomes outcome (position_from test first outcomes) refl passes

same_by : (test : SeedOutcome → Bool) (first : ℕ) (outcomes : List SeedOutcome) (outcome : SeedOutcome) (place : Option ℕ)
    → position_from test first outcomes ≡ place → test outcome ≡ false
    → tally_of test first (outcomes ++ outcome ∷ []) ≡ tally_of test first outcomes
same_by test first outcomes outcome None e fails =
    let all = outcomes ++ outcome ∷ [] in
    ap (option_map (tally_from test all)) (first_none test first outcomes outcome e fails) ∙ sym (ap (option_map (tally_from test outcomes)) e)
same_by test first outcomes outcome (Some s) e fails =
    let all = outcomes ++ outcome ∷ [] in
    ap (option_map (tally_from test all)) (first_kept test first outcomes outcome s e)
    ∙ (ap (λ (passed : List SeedOutcome). Some (record { seeds = length passed; first = s })) (none_passes test outcomes outcome fails)
    ∙ sym (ap (option_map (tally_from test outcomes)) e))

-- another one that does not pass
pub no_more : (test : SeedOutcome → Bool) (first : ℕ) (outcomes : List SeedOutcome) (outcome : SeedOutcome) → test outcome ≡ false
    → tally_of test first (outcomes ++ outcome ∷ []) ≡ tally_of test first outcomes
no_more test first outcomes outcome fails = same_by test first outcomes outcome (position_from test first outcomes) refl fails

seeds_below : (test : SeedOutcome → Bool) (outcomes : List SeedOutcome) → length (filter test outcomes) ≤ length outcomes
seeds_below test [] = omega arith
seeds_below test (o ∷ os) =
    let rest = seeds_below test os in
    elim (cases_Bool (test o)) [
      | inl passes ↦ let e = ap length (cond-true (test o) (o ∷ filter test os) (filter test os) passes) in omega (arith, e, rest)
      | inr fails ↦ let e = ap length (cond-false (test o) (o ∷ filter test os) (filter test os) fails) in omega (arith, e, rest)
    ]

same_item : {X : Type 0} {a b : X} → Some a ≡ Some b → a ≡ b
same_item e = cc

below_by : (test : SeedOutcome → Bool) (first seed : ℕ) (outcomes : List SeedOutcome) (place : Option ℕ) → position_from test first outcomes ≡ place
    → first + length outcomes ≡ seed → seed < 2 ^ 64 → (tally : Option Tally) → tally ≡ tally_of test first outcomes → IfSome tally (λ t. t.seeds < 2 ^ 64)
below_by test first seed outcomes place e is small None t = tt
below_by test first seed outcomes None e is small (Some tally) t =
    let none = ap (option_map (tally_from test outcomes)) e in absurd cc
below_by test first seed outcomes (Some s) e is small (Some tally) t =
    let some : Some tally ≡ Some (tally_from test outcomes s) = t ∙ ap (option_map (tally_from test outcomes)) e in
    let seeds : tally.seeds ≡ length (filter test outcomes) = ap (λ (x : Tally). x.seeds) (same_item some) in
    omega (arith, seeds, is, small, seeds_below test outcomes)

-- no more passed than there were
pub few_enough : (test : SeedOutcome → Bool) (first seed : ℕ) (outcomes : List SeedOutcome) → first + length outcomes ≡ seed → seed < 2 ^ 64
    → (tally : Option Tally) → tally ≡ tally_of test first outcomes → IfSome tally (λ t. t.seeds < 2 ^ 64)
few_enough test first seed outcomes is small tally t = below_by test first seed outcomes (position_from test first outcomes) refl is small tally t

-- a tally that counted another one
pub counts : (test : SeedOutcome → Bool) (first seed : ℕ) (outcomes : List SeedOutcome) (outcome : SeedOutcome) (old new : Option Tally)
    → old ≡ tally_of test first outcomes → first + length outcomes ≡ seed → test outcome ≡ true → new ≡ Some (tally_with old seed)
    → new ≡ tally_of test first (outcomes ++ outcome ∷ [])
counts test first seed outcomes outcome old new o is passes n =
    n ∙ (ap (λ t. Some (tally_with t seed)) o
    ∙ (ap (λ (s : ℕ). Some (tally_with (tally_of test first outcomes) s)) (sym is) ∙ sym (one_more test first outcomes outcome passes)))

pub number_is : (numbers : List ℕ) (a b : ℕ) (spread : Option Spread) → a ≡ b → IsLeastAndMost (numbers ++ a ∷ []) spread → IsLeastAndMost (numbers ++ b ∷ []) spread
number_is numbers a b spread same kept = subst (λ (n : ℕ). IsLeastAndMost (numbers ++ n ∷ []) spread) same kept

-- a figure of the runs that came to an end, with another such run and without one
pub one_number_more : (figure : RunCost → ℕ) (outcomes : List SeedOutcome) (outcome : SeedOutcome) (figures : RunCost) (spread : Option Spread) → figures_of outcome ≡ figures ∷ []
    → IsLeastAndMost (map figure (flat_map figures_of outcomes) ++ figure figures ∷ []) spread
    → IsLeastAndMost (map figure (flat_map figures_of (outcomes ++ outcome ∷ []))) spread
one_number_more figure outcomes outcome figures spread is kept =
    let ended = flat_map figures_of outcomes in
    let all : flat_map figures_of (outcomes ++ outcome ∷ []) ≡ ended ++ figures ∷ [] =
    flat_map-append figures_of outcomes (outcome ∷ []) ∙ ap (λ fs. ended ++ fs) (append-nil (figures_of outcome) ∙ is) in
    subst (λ ns. IsLeastAndMost ns spread) (sym (ap (map figure) all ∙ map-append figure ended (figures ∷ []))) kept

pub no_number_more : (figure : RunCost → ℕ) (outcomes : List SeedOutcome) (outcome : SeedOutcome) (spread : Option Spread) → figures_of outcome ≡ []
    → IsLeastAndMost (map figure (flat_map figures_of outcomes)) spread → IsLeastAndMost (map figure (flat_map figures_of (outcomes ++ outcome ∷ []))) spread
no_number_more figure outcomes outcome spread is kept =
    let ended = flat_map figures_of outcomes in
    let all : flat_map figures_of (outcomes ++ outcome ∷ []) ≡ ended =
    flat_map-append figures_of outcomes (outcome ∷ []) ∙ (ap (λ fs. ended ++ fs) (append-nil (figures_of outcome) ∙ is) ∙ append-nil ended) in
    subst (λ fs. IsLeastAndMost (map figure fs) spread) (sym all) kept

-- ---- The least and the most

-- of no numbers and this one
pub one_number : (numbers : List ℕ) (number : ℕ) → numbers ≡ []
    → IsLeastAndMost (numbers ++ number ∷ []) (Some (record { least = number; most = number }))
one_number numbers number none =
    subst (λ (ns : List ℕ). IsLeastAndMost (ns ++ number ∷ []) (Some (record { least = number; most = number }))) (sym none)
    ((0, omega arith, refl), (0, omega arith, refl), each)
  where
    each : All (λ n. (number ≤ n) × (n ≤ number)) (number ∷ [])
    each zero d below = (omega arith, omega arith)
    each (suc k) d below = absurd (omega arith)

is_in : (numbers : List ℕ) (old number new : ℕ) → Contains numbers old → (new ≡ old) ⊎ (new ≡ number) → Contains (numbers ++ number ∷ []) new
is_in numbers old number new h (inl same) =
    subst (λ (n : ℕ). Contains (numbers ++ number ∷ []) n) (sym same) (Contains-append_left numbers (number ∷ []) old h)
is_in numbers old number new h (inr same) =
    subst (λ (n : ℕ). Contains (numbers ++ number ∷ []) n) (sym same) (Contains-push numbers number)

-- of one number more
pub wider : (numbers : List ℕ) (spread : Spread) (number least most : ℕ) → IsLeastAndMost numbers (Some spread)
    → (least ≡ min spread.least number) → (most ≡ max spread.most number)
    → IsLeastAndMost (numbers ++ number ∷ []) (Some (record { least = least; most = most }))
wider numbers spread number least most (has_least, has_most, each) l m = (
  is_in numbers spread.least number least has_least
      (elim (cases_lt number spread.least) [ inl less ↦ inr (omega (arith, l)) | inr not ↦ inl (omega (arith, l)) ]),
  is_in numbers spread.most number most has_most
      (elim (cases_lt spread.most number) [ inl less ↦ inr (omega (arith, m)) | inr not ↦ inl (omega (arith, m)) ]),
  All-push (λ n. (least ≤ n) × (n ≤ most)) numbers number (λ k d below.
      let (low, high) = each k d below in (omega (arith, l), omega (arith, m))) (omega (arith, l), omega (arith, m)),
)
