-- A number before a space.
use Rattle.std.proofs.Common.{◌≡◌, ◌≢◌, ◌+◌, ◌^◌, ◌<◌, ◌≤◌, ℕ, suc, true, false, List, ◌∷◌, ◌++◌, length, get_or, take, drop, Option, Some, None, option_map, refl, sym, ap, subst, ◌∙◌, inl, inr, arith}
use Rattle.std.specs.Prelude.{option_and_then}
use Rattle.std.specs.Char.{is_ascii_digit}
use Rattle.std.specs.List.{list_all}
use Rattle.std.specs.Str.Parse.{digits_value}
use Rattle.std.proofs.lemmas.Bool.{and_parts, cases_lt, false≢true}
use Rattle.std.proofs.lemmas.List.{get_or_at, take-append-le, take-append-drop}
use Rattle.std.proofs.lemmas.List.Folds.{list_all-append, list_all_more}
use Rattle.ra_trace.specs.Forms.{cut, before, number_within}
use Rattle.ra_trace.proofs.Cuts.{cases_Option, cut-at, cut-none, cut-only}
use Rattle.ra_trace.proofs.Decimals.{each_digit, first_below, is_not_within}

-- the first ones of digits
first_are : (digits : List ℕ) (n : ℕ) → list_all is_ascii_digit digits ≡ true → list_all is_ascii_digit (take n digits) ≡ true
first_are digits n each =
    (and_parts (list_all is_ascii_digit (take n digits)) (list_all is_ascii_digit (drop n digits))
    (sym (list_all-append is_ascii_digit (take n digits) (drop n digits)) ∙ ap (list_all is_ascii_digit) (take-append-drop n digits) ∙ each)).0

-- what is before a space, read as a number
abbrev with_rest : ℕ → ℕ → List ℕ × List ℕ → Option (ℕ × List ℕ)
with_rest low high parts = option_map (λ field. (field, parts.1)) (number_within low high parts.0)

by_cut : (low high : ℕ) (text : List ℕ) (parts : Option (List ℕ × List ℕ)) → cut 32 text ≡ parts
    → before (number_within low high) text ≡ option_and_then (with_rest low high) parts
by_cut low high text parts is = ap (option_and_then (with_rest low high)) is

-- the first space is here
pub before_here : (low high : ℕ) (text : List ℕ) (end : ℕ) (found : Option ℕ) → end < length text → get_or text end 0 ≡ 32 → ((k : ℕ) → k < end → get_or text k 0 ≢ 32)
    → found ≡ number_within low high (take end text) → before (number_within low high) text ≡ option_map (λ field. (field, drop (suc end) text)) found
before_here low high text end found within here free is =
    by_cut low high text (Some (take end text, drop (suc end) text)) (cut-at 32 text end within here free)
    ∙ ap (option_map (λ (field : ℕ). (field, drop (suc end) text))) (sym is)

-- there is no space
pub before_none : (low high : ℕ) (text : List ℕ) → ((k : ℕ) → k < length text → get_or text k 0 ≢ 32) → before (number_within low high) text ≡ None
before_none low high text free = by_cut low high text None (cut-none 32 text free)

-- bytes with no space among them end before the first space
free_before : (text : List ℕ) (n : ℕ) (parts : List ℕ × List ℕ) → text ≡ parts.0 ++ 32 ∷ parts.1 → ((k : ℕ) → k < n → get_or text k 0 ≢ 32) → length parts.0 < n → ⊥
free_before text n parts is free late =
    free (length parts.0) late (ap (λ (bytes : List ℕ). get_or bytes (length parts.0) 0) is ∙ get_or_at parts.0 32 parts.1 0 (length parts.0) refl)

-- of these bytes no space is one, and they are not all digits, or write a number that does not fit
pub before_unread : (low high : ℕ) (text : List ℕ) (n : ℕ) → high < 2 ^ 64 → ((k : ℕ) → k < n → get_or text k 0 ≢ 32)
    → (list_all is_ascii_digit (take n text) ≡ true → 2 ^ 64 ≤ digits_value 10 (take n text)) → before (number_within low high) text ≡ None
before_unread low high text n small free unread =
    elim (cases_Option (cut 32 text)) [
      | inl none ↦ by_cut low high text None none
      | inr (parts, found) ↦
          let is : text ≡ parts.0 ++ 32 ∷ parts.1 = cut-only 32 text parts found in
          let early = free_before text n parts is free in
          let past : n ≤ length parts.0 = omega (arith, early) in
          let same : take n text ≡ take n parts.0 = ap (take n) is ∙ take-append-le n parts.0 (32 ∷ parts.1) past in
          let none : number_within low high parts.0 ≡ None = is_not_within low high parts.0 (λ good least most.
          let large = unread (ap (list_all is_ascii_digit) same ∙ first_are parts.0 n (each_digit parts.0 good)) in
          let less = first_below parts.0 n in
          let worth : digits_value 10 (take n text) ≡ digits_value 10 (take n parts.0) = ap (digits_value 10) same in
          omega (arith, large, less, worth)) in
          by_cut low high text (Some parts) found ∙ ap (option_map (λ (field : ℕ). (field, parts.1))) none
    ]

-- another byte is no space
pub free_more : (text : List ℕ) (i : ℕ) → ((k : ℕ) → k < i → get_or text k 0 ≢ 32) → get_or text i 0 ≢ 32 → (k : ℕ) → k < i + 1 → get_or text k 0 ≢ 32
free_more text i free other k before =
    elim (cases_lt k i) [
      | inl earlier ↦ free k earlier
      | inr here ↦ let same : i ≡ k = omega (arith, before, here) in subst (λ (n : ℕ). get_or text n 0 ≢ 32) same other
    ]

-- another byte is no digit
pub not_all : (text : List ℕ) (i : ℕ) → i < length text → is_ascii_digit (get_or text i 0) ≡ false → list_all is_ascii_digit (take (i + 1) text) ≡ true → ⊥
not_all text i inside other each =
    false≢true (sym other ∙ (and_parts (list_all is_ascii_digit (take i text)) (is_ascii_digit (get_or text i 0)) (sym (list_all_more is_ascii_digit text i 0 inside) ∙ each)).1)
