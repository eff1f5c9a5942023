-- Numbers of a range, as they are written.
use Rattle.std.proofs.Common.{◌≡◌, ◌≢◌, ◌+◌, ◌*◌, ◌-◌, ◌^◌, ◌<◌, ◌≤◌, ℕ, zero, suc, true, false, ◌&&◌, ◌||◌, ◌==◌, not, nat_le, List, [], ◌∷◌, length, get_or, take, Some, None, refl, sym, inl, inr, arith, rules, All}
use Rattle.std.proofs.lemmas.Bool.{and_parts, cases_Bool, leb-true, le-leb, ne_eqb}
use Rattle.std.proofs.Math.Bool.{or-true}
use Rattle.std.proofs.lemmas.Bool.Decides.{nat_tests}
use Rattle.std.proofs.lemmas.Fmt.{decimal-digits_value, digits_decimal, digits_value-decimal, first_decimal, decimal_nonempty, decimal_digit}
use Rattle.std.proofs.lemmas.Int.Digits.{digits_value_more}
use Rattle.std.proofs.lemmas.List.Elements.{All-nil, All-cons}
use Rattle.std.proofs.lemmas.List.Folds.{list_all_more}
use Rattle.std.proofs.lemmas.Option.{same_Some}
use Rattle.std.proofs.lemmas.Str.Parse.{IsNumeralModel, numerals_by_value}
use Rattle.std.specs.Char.{digit_value, is_ascii_digit}
use Rattle.std.specs.Fmt.{decimal}
use Rattle.std.specs.List.{list_all}
use Rattle.std.specs.Str.Parse.{digits_value, digits_value_after}
use Rattle.ra_trace.specs.Forms.{is_decimal, number_within}
use Rattle.ra_trace.proofs.Cuts.{IsFree}

own : IsNumeralModel (λ digits. list_all is_ascii_digit digits ≡ true) (digits_value 10)
own = numerals_by_value (λ digits. list_all is_ascii_digit digits ≡ true) (search rules)

pub each_digit : (digits : List ℕ) → is_decimal digits ≡ true → list_all is_ascii_digit digits ≡ true
each_digit digits h =
    let (most, first) = and_parts (nat_le 1 (length digits) && list_all is_ascii_digit digits) (length digits == 1 || not (get_or digits 0 0 == 48)) h in
    (and_parts (nat_le 1 (length digits)) (list_all is_ascii_digit digits) most).1

some_digit : (digits : List ℕ) → is_decimal digits ≡ true → 1 ≤ length digits
some_digit digits h =
    let (most, first) = and_parts (nat_le 1 (length digits) && list_all is_ascii_digit digits) (length digits == 1 || not (get_or digits 0 0 == 48)) h in
    leb-true 1 (length digits) (and_parts (nat_le 1 (length digits)) (list_all is_ascii_digit digits) most).0

no_zero : (digits : List ℕ) → (length digits == 1 || not (get_or digits 0 0 == 48)) ≡ true → get_or digits 0 0 ≡ 48 → length digits ≡ 1
no_zero digits h none = grind (arith, nat_tests)

-- each of some digits
digits_are : (P : ℕ → Type 0) → ((b : ℕ) → is_ascii_digit b ≡ true → P b) → (digits : List ℕ) → list_all is_ascii_digit digits ≡ true → All P digits
digits_are P each [] h = All-nil P
digits_are P each (b ∷ digits) h =
    let (first, others) = and_parts (is_ascii_digit b) (list_all is_ascii_digit digits) h in
    All-cons P b digits (each b first) (digits_are P each digits others)

-- a decimal is how its number is written
decimal_is : (digits : List ℕ) → is_decimal digits ≡ true → digits_value 10 digits < 2 ^ 64 → decimal (digits_value 10 digits) ≡ digits
decimal_is digits h small =
    let (most, first) = and_parts (nat_le 1 (length digits) && list_all is_ascii_digit digits) (length digits == 1 || not (get_or digits 0 0 == 48)) h in
    decimal-digits_value own digits (each_digit digits h) (some_digit digits h) (no_zero digits first) small

-- one digit more
pub one_more : (digits : List ℕ) (i value : ℕ) → i < length digits → is_ascii_digit (get_or digits i 0) ≡ true
    → list_all is_ascii_digit (take i digits) ≡ true → value ≡ digits_value 10 (take i digits)
    → (list_all is_ascii_digit (take (i + 1) digits) ≡ true) × (value * 10 + (get_or digits i 0 - 48) ≡ digits_value 10 (take (i + 1) digits))
one_more digits i value inside digit others is =
    let worth : digit_value (get_or digits i 0) ≡ get_or digits i 0 - 48 = grind (arith, nat_tests) in
    let more = digits_value_more 10 digits i inside in
    (rw (list_all_more is_ascii_digit digits i 0 inside, others, digit), rw (more, worth, is))

grows : (n : ℕ) (digits : List ℕ) → n ≤ digits_value_after 10 n digits
grows n [] = omega arith
grows n (d ∷ digits) = omega (arith, grows (n * 10 + digit_value d) digits)

part_below : (n : ℕ) (digits : List ℕ) (i : ℕ) → digits_value_after 10 n (take i digits) ≤ digits_value_after 10 n digits
part_below n digits zero = grows n digits
part_below n [] (suc i) = omega arith
part_below n (d ∷ digits) (suc i) = part_below (n * 10 + digit_value d) digits i

-- the first digits write no more than all of them
pub first_below : (digits : List ℕ) (i : ℕ) → digits_value 10 (take i digits) ≤ digits_value 10 digits
first_below digits i = part_below 0 digits i

-- a decimal in a range, by its parts
pub is_within : (low high : ℕ) (digits : List ℕ) → 1 ≤ length digits → (1 < length digits → get_or digits 0 0 ≢ 48) → list_all is_ascii_digit digits ≡ true
    → low ≤ digits_value 10 digits → digits_value 10 digits ≤ high → number_within low high digits ≡ Some (digits_value 10 digits)
is_within low high digits some first each least most =
    let plain : (length digits == 1 || not (get_or digits 0 0 == 48)) ≡ true = grind (arith, nat_tests) in
    rw (le-leb 1 (length digits) some, each, plain, le-leb low (digits_value 10 digits) least, le-leb (digits_value 10 digits) high most)

-- otherwise it is not a number
pub is_not_within : (low high : ℕ) (digits : List ℕ) → (is_decimal digits ≡ true → low ≤ digits_value 10 digits → digits_value 10 digits ≤ high → ⊥)
    → number_within low high digits ≡ None
is_not_within low high digits other =
    elim (cases_Bool (is_decimal digits)) [
      | inl good ↦
          elim (cases_Bool (nat_le low (digits_value 10 digits))) [
            | inl above ↦
                elim (cases_Bool (nat_le (digits_value 10 digits) high)) [
                  | inl below ↦ absurd (other good (leb-true low (digits_value 10 digits) above) (leb-true (digits_value 10 digits) high below))
                  | inr past ↦ rw (good, above, past)
                ]
            | inr under ↦ rw (good, under)
          ]
      | inr bad ↦ rw bad
    ]

-- there is no digit
pub none_if_empty : (low high : ℕ) (digits : List ℕ) → length digits ≡ 0 → number_within low high digits ≡ None
none_if_empty low high [] empty = refl
none_if_empty low high (d ∷ digits) empty = absurd cc

-- a zero leads
pub none_if_zero_leads : (low high : ℕ) (digits : List ℕ) → 1 < length digits → get_or digits 0 0 ≡ 48 → number_within low high digits ≡ None
none_if_zero_leads low high digits many zero_leads =
    is_not_within low high digits (λ good least most.
    let (some, first) = and_parts (nat_le 1 (length digits) && list_all is_ascii_digit digits) (length digits == 1 || not (get_or digits 0 0 == 48)) good in
    let single = no_zero digits first zero_leads in omega arith)

-- not all are digits, or their number does not fit
pub none_if_unread : (low high : ℕ) (digits : List ℕ) → high < 2 ^ 64 → (list_all is_ascii_digit digits ≡ true → 2 ^ 64 ≤ digits_value 10 digits)
    → number_within low high digits ≡ None
none_if_unread low high digits small unread = is_not_within low high digits (λ good least most. let large = unread (each_digit digits good) in omega arith)

-- the number is outside of the range
pub none_if_less : (low high : ℕ) (digits : List ℕ) → digits_value 10 digits < low → number_within low high digits ≡ None
none_if_less low high digits less = is_not_within low high digits (λ good least most. omega arith)

pub none_if_greater : (low high : ℕ) (digits : List ℕ) → high < digits_value 10 digits → number_within low high digits ≡ None
none_if_greater low high digits greater = is_not_within low high digits (λ good least most. omega arith)

-- whether a field is a number of a range
pub ruleset ranges = (is_within, none_if_empty, none_if_zero_leads, none_if_unread, none_if_less, none_if_greater)

-- a number of a range is read from its one spelling, and from no other text
pub number_within-only : (low high : ℕ) (digits : List ℕ) (n : ℕ) → high < 2 ^ 64 → number_within low high digits ≡ Some n → (low ≤ n) × (n ≤ high) × (digits ≡ decimal n)
number_within-only low high digits n small e =
    elim (cases_Bool (is_decimal digits)) [
      | inl good ↦
          elim (cases_Bool (nat_le low (digits_value 10 digits))) [
            | inl above ↦
                elim (cases_Bool (nat_le (digits_value 10 digits) high)) [
                  | inl below ↦
                      let same : digits_value 10 digits ≡ n = same_Some _ _ (rw (good, above, below) at e) in
                      let most = leb-true (digits_value 10 digits) high below in
                      rw (sym same) (leb-true low (digits_value 10 digits) above, most, sym (decimal_is digits good (omega arith)))
                  | inr past ↦ absurd (let clash : None ≡ Some n = rw (good, above, past) at e in cc)
                ]
            | inr under ↦ absurd (let clash : None ≡ Some n = rw (good, under) at e in cc)
          ]
      | inr bad ↦ absurd (let clash : None ≡ Some n = rw bad at e in cc)
    ]

one_or_no_zero : (n : ℕ) → n < 2 ^ 64 → (length (decimal n) == 1 || not (get_or (decimal n) 0 0 == 48)) ≡ true
one_or_no_zero zero small = rw (decimal_digit 0 (omega arith))
one_or_no_zero (suc n) small =
    let other : (get_or (decimal (suc n)) 0 0 == 48) ≡ false = ne_eqb (get_or (decimal (suc n)) 0 0) 48 (let first = first_decimal (suc n) (omega arith) small in omega arith) in
    rw (other, or-true)

is_decimal-decimal : (n : ℕ) → n < 2 ^ 64 → is_decimal (decimal n) ≡ true
is_decimal-decimal n small =
    let some : 1 ≤ length (decimal n) = decimal_nonempty n small in
    rw (le-leb 1 (length (decimal n)) some, digits_decimal own n small) (one_or_no_zero n small)

pub number_within-decimal : (low high n : ℕ) → high < 2 ^ 64 → low ≤ n → n ≤ high → number_within low high (decimal n) ≡ Some n
number_within-decimal low high n small least most =
    let below : n < 2 ^ 64 = omega arith in
    let value : digits_value 10 (decimal n) ≡ n = digits_value-decimal own n below in
    rw (is_decimal-decimal n below, value, le-leb low n least, le-leb n high most)

not_byte : (byte b : ℕ) → byte < 48 → is_ascii_digit b ≡ true → (b == byte) ≡ false
not_byte byte b low h = let (least, most) = and_parts (nat_le 48 b) (nat_le b 57) h in let above = leb-true 48 b least in ne_eqb b byte (omega arith)

-- no space and no line feed is in it
pub IsFree-decimal : (byte n : ℕ) → byte < 48 → n < 2 ^ 64 → IsFree byte (decimal n)
IsFree-decimal byte n low small = digits_are (λ b. (b == byte) ≡ false) (λ b. not_byte byte b low) (decimal n) (digits_decimal own n small)
