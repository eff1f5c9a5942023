-- A text is read as choices exactly if it is how they are written.
use Rattle.std.proofs.Common.{◌≡◌, ◌<◌, ◌^◌, ◌+◌, ◌*◌, ◌-◌, ℕ, true, false, ◌==◌, nat_le, List, [], ◌∷◌, length, get_or, map, fold, Option, Some, None, option_map, option_and_then, refl, sym, ap, subst, ◌∙◌, inl, inr, arith, rules, ◌⊎◌, All, Result, Ok, Err, length-append}
use Rattle.std.proofs.lemmas.Bool.{cases_Bool, and_parts, leb-true, eqb-true, ne_eqb}
use Rattle.std.proofs.lemmas.Fmt.{decimal-digits_value, decimal_is_IsNumeral, digits_decimal, digits_value-decimal, length-decimal-le}
use Rattle.std.proofs.lemmas.List.Elements.{All-nil, All-cons, All-head, All-tail}
use Rattle.std.proofs.lemmas.List.Splits.{join_with_byte-slice_split, slice_split_none, slice_split_at}
use Rattle.std.proofs.lemmas.Option.{same_Some}
use Rattle.std.proofs.lemmas.Str.Parse.{IsNumeralModel, numerals_by_fold, digits_value_short}
use Rattle.std.specs.Char.{is_ascii_digit}
use Rattle.std.specs.Fmt.{decimal}
use Rattle.std.specs.List.{list_all, slice_split, join_with_byte}
use Rattle.ra_schedule.specs.declared.choice.Choice.{Choice}
use Rattle.ra_schedule.specs.declared.choice.Choice.TheVariants.{Client, Message, Lost, Repeated}
use Rattle.ra_schedule.specs.ChoicesText.{is_decimal, decimal_value, choice_with, choice_of, choices_in, choices_of, spelled, spelled_all, HasText, Lists}
use Rattle.std.specs.Prelude.{MatchResult, IfOk, IfErr}
use Rattle.ra_stamp.specs.Sequence.{Listed}
use Rattle.ra_schedule.specs.declared.error.ChoicesError.{ChoicesError}
use Rattle.ra_schedule.specs.declared.error.ChoicesError.TheVariants as fault
use Rattle.ra_schedule.proofs.Numbers.{decimal_parts, decimal_of_parts, IsChosenTo, IsChosenTo-refused, choices_of-some}

-- the test and the number are the ones of std
own : IsNumeralModel (λ digits. list_all is_ascii_digit digits ≡ true) (λ digits. fold (λ value digit. 10 * value + (digit - 48)) 0 digits)
own = numerals_by_fold (λ digits. list_all is_ascii_digit digits ≡ true) (search rules) (λ n digits. fold (λ value digit. 10 * value + (digit - 48)) n digits) (search rules)

-- a decimal is how its number is written
decimal_is : (digits : List ℕ) → is_decimal digits ≡ true → decimal (decimal_value digits) ≡ digits
decimal_is digits h =
    let is = decimal_parts digits h in
    let small : decimal_value digits < 10 ^ 9 = digits_value_short own digits 9 is.each is.few in
    decimal-digits_value own digits is.each is.some is.first (omega arith)

with_letter : (letter : ℕ) (digits : List ℕ) (choice : Choice) → decimal (decimal_value digits) ≡ digits → choice_with letter (decimal_value digits) ≡ Some choice → letter ∷ digits ≡ spelled choice
with_letter letter digits choice is e =
    elim (cases_Bool (letter == 99)) [
      | inl c ↦ let same : Client (decimal_value digits) ≡ choice = same_Some _ _ (rw c at e) in rw (sym same, is, eqb-true letter 99 c)
      | inr not-c ↦
          elim (cases_Bool (letter == 109)) [
            | inl m ↦ let same : Message (decimal_value digits) ≡ choice = same_Some _ _ (rw (not-c, m) at e) in rw (sym same, is, eqb-true letter 109 m)
            | inr not-m ↦
                elim (cases_Bool (letter == 108)) [
                  | inl l ↦ let same : Lost (decimal_value digits) ≡ choice = same_Some _ _ (rw (not-c, not-m, l) at e) in rw (sym same, is, eqb-true letter 108 l)
                  | inr not-l ↦ absurd (let clash : None ≡ Some choice = rw (not-c, not-m, not-l) at e in cc)
                ]
          ]
    ]

choice_spelled : (word : List ℕ) (choice : Choice) → choice_of word ≡ Some choice → word ≡ spelled choice
choice_spelled [] choice e = absurd cc
choice_spelled (letter ∷ digits) choice e =
    elim (cases_Bool (is_decimal digits)) [
      | inl good ↦ with_letter letter digits choice (decimal_is digits good) (rw good at e)
      | inr bad ↦ absurd (let clash : None ≡ Some choice = rw bad at e in cc)
    ]

-- an option that holds
held : {A B : Type 0} (next : A → Option B) (o : Option A) (y : B) → option_and_then next o ≡ Some y → (x : A) × (o ≡ Some x) × (next x ≡ Some y)
held next None y e = absurd cc
held next (Some x) y e = (x, refl, e)

mapped : {A B : Type 0} (f : A → B) (o : Option A) (y : B) → option_map f o ≡ Some y → (x : A) × (o ≡ Some x) × (f x ≡ y)
mapped f None y e = absurd cc
mapped f (Some x) y e = (x, refl, same_Some _ _ e)

words_spelled : (words : List (List ℕ)) (choices : List Choice) → choices_in words ≡ Some choices → words ≡ map spelled choices
words_spelled [] choices e = let same : [] ≡ choices = same_Some _ _ e in rw (sym same)
words_spelled (word ∷ words) choices e =
    let w = held (λ (choice : Choice). option_map (λ (others : List Choice). choice ∷ others) (choices_in words)) (choice_of word) choices e in
    let v = mapped (λ (others : List Choice). w.0 ∷ others) (choices_in words) choices w.2 in
    ap (λ (first : List ℕ). first ∷ words) (choice_spelled word w.0 w.1) ∙ (ap (λ (others : List (List ℕ)). spelled w.0 ∷ others) (words_spelled words v.0 v.1) ∙ ap (map spelled) v.2)

pub text_spelled : (text : List ℕ) (choices : List Choice) → choices_of text ≡ Some choices → text ≡ spelled_all choices
text_spelled [] choices e = let same : [] ≡ choices = same_Some _ _ e in rw (sym same)
text_spelled (b ∷ text) choices e =
    sym (join_with_byte-slice_split 32 (b ∷ text)) ∙ ap (join_with_byte 32) (words_spelled (slice_split (λ c. c == 32) (b ∷ text)) choices e)

-- a number of at most nine digits
value_short : (digits : List ℕ) → is_decimal digits ≡ true → decimal_value digits < 10 ^ 9
value_short digits h = let is = decimal_parts digits h in digits_value_short own digits 9 is.each is.few

number_short : (letter number : ℕ) (choice : Choice) → number < 10 ^ 9 → choice_with letter number ≡ Some choice → HasText choice
number_short letter number choice small e =
    elim (cases_Bool (letter == 99)) [
      | inl c ↦ let same : Client number ≡ choice = same_Some _ _ (rw c at e) in rw (sym same) small
      | inr not-c ↦
          elim (cases_Bool (letter == 109)) [
            | inl m ↦ let same : Message number ≡ choice = same_Some _ _ (rw (not-c, m) at e) in rw (sym same) small
            | inr not-m ↦
                elim (cases_Bool (letter == 108)) [
                  | inl l ↦ let same : Lost number ≡ choice = same_Some _ _ (rw (not-c, not-m, l) at e) in rw (sym same) small
                  | inr not-l ↦ absurd (let clash : None ≡ Some choice = rw (not-c, not-m, not-l) at e in cc)
                ]
          ]
    ]

choice_short : (word : List ℕ) (choice : Choice) → choice_of word ≡ Some choice → HasText choice
choice_short [] choice e = absurd cc
choice_short (letter ∷ digits) choice e =
    elim (cases_Bool (is_decimal digits)) [
      | inl good ↦ number_short letter (decimal_value digits) choice (value_short digits good) (rw good at e)
      | inr bad ↦ absurd (let clash : None ≡ Some choice = rw bad at e in cc)
    ]

words_short : (words : List (List ℕ)) (choices : List Choice) → choices_in words ≡ Some choices → All HasText choices
words_short [] choices e = let same : [] ≡ choices = same_Some _ _ e in rw (sym same) (All-nil HasText)
words_short (word ∷ words) choices e =
    let w = held (λ (choice : Choice). option_map (λ (others : List Choice). choice ∷ others) (choices_in words)) (choice_of word) choices e in
    let v = mapped (λ (others : List Choice). w.0 ∷ others) (choices_in words) choices w.2 in
    rw (sym v.2) (All-cons HasText w.0 v.0 (choice_short word w.0 w.1) (words_short words v.0 v.1))

text_short : (text : List ℕ) (choices : List Choice) → choices_of text ≡ Some choices → All HasText choices
text_short [] choices e = let same : [] ≡ choices = same_Some _ _ e in rw (sym same) (All-nil HasText)
text_short (b ∷ text) choices e = words_short (slice_split (λ c. c == 32) (b ∷ text)) choices e

pub lists : (text : List ℕ) (choices : List Choice) → choices_of text ≡ Some choices → Lists text choices
lists text choices e = record { whole = text_spelled text choices e; written = text_short text choices e }

-- a number is written without zeros before it
no_zeros : (n : ℕ) (digits : List ℕ) → n < 10 ^ 9 → decimal n ≡ digits → get_or digits 0 0 ≡ 48 → length digits ≡ 1
no_zeros n [] small is zero = absurd (omega arith)
no_zeros n (c ∷ []) small is zero = refl
no_zeros n (c ∷ d ∷ rest) small is zero =
    let each : list_all is_ascii_digit (c ∷ d ∷ rest) ≡ true = subst (λ (ds : List ℕ). list_all is_ascii_digit ds ≡ true) is (digits_decimal own n (omega arith)) in
    let (first, others) = and_parts (is_ascii_digit c) (list_all is_ascii_digit (d ∷ rest)) each in
    let value : decimal_value (c ∷ d ∷ rest) ≡ n = subst (λ (ds : List ℕ). decimal_value ds ≡ n) is (digits_value-decimal own n (omega arith)) in
    let less : decimal_value (d ∷ rest) ≡ n = subst (λ (first-digit : ℕ). decimal_value (first-digit ∷ d ∷ rest) ≡ n) zero value in
    let below : decimal_value (d ∷ rest) < 10 ^ length (d ∷ rest) = digits_value_short own (d ∷ rest) (length (d ∷ rest)) others (omega arith) in
    let n-below : n < 10 ^ length (d ∷ rest) = rw less at below in
    let short = length-decimal-le (length (d ∷ rest)) n (omega arith) n-below (omega arith) in
    absurd (omega (arith, ap length is, short))

is_decimal-decimal : (n : ℕ) → n < 10 ^ 9 → is_decimal (decimal n) ≡ true
is_decimal-decimal n small =
    let numeral = decimal_is_IsNumeral n (omega arith) in
    decimal_of_parts (decimal n) (record {
      some = numeral.0.0;
      few = length-decimal-le 9 n (omega arith) small (omega arith);
      each = digits_decimal own n (omega arith);
      first = no_zeros n (decimal n) small refl;
    })

with_number : (letter n : ℕ) → n < 10 ^ 9 → choice_of (letter ∷ decimal n) ≡ choice_with letter n
with_number letter n small =
    let value : decimal_value (decimal n) ≡ n = digits_value-decimal own n (omega arith) in rw (is_decimal-decimal n small, value)

choice_read : (choice : Choice) → HasText choice → choice_of (spelled choice) ≡ Some choice
choice_read (Client n) small = with_number 99 n small
choice_read (Message n) small = with_number 109 n small
choice_read (Lost n) small = with_number 108 n small
choice_read (Repeated n) none = absurd none

digit_no_space : (c : ℕ) → is_ascii_digit c ≡ true → (c == 32) ≡ false
digit_no_space c h = let (low, high) = and_parts (nat_le 48 c) (nat_le c 57) h in let above = leb-true 48 c low in ne_eqb c 32 (omega arith)

digits_no_space : (digits : List ℕ) → list_all is_ascii_digit digits ≡ true → All (λ c. (c == 32) ≡ false) digits
digits_no_space [] h = All-nil (λ c. (c == 32) ≡ false)
digits_no_space (c ∷ digits) h =
    let (first, others) = and_parts (is_ascii_digit c) (list_all is_ascii_digit digits) h in
    All-cons (λ x. (x == 32) ≡ false) c digits (digit_no_space c first) (digits_no_space digits others)

no_space : (choice : Choice) → HasText choice → All (λ c. (c == 32) ≡ false) (spelled choice)
no_space (Client n) small = All-cons (λ c. (c == 32) ≡ false) 99 (decimal n) refl (digits_no_space (decimal n) (digits_decimal own n (omega arith)))
no_space (Message n) small = All-cons (λ c. (c == 32) ≡ false) 109 (decimal n) refl (digits_no_space (decimal n) (digits_decimal own n (omega arith)))
no_space (Lost n) small = All-cons (λ c. (c == 32) ≡ false) 108 (decimal n) refl (digits_no_space (decimal n) (digits_decimal own n (omega arith)))
no_space (Repeated n) none = absurd none

split_spelled : (choice : Choice) (choices : List Choice) → All HasText (choice ∷ choices) → slice_split (λ b. b == 32) (spelled_all (choice ∷ choices)) ≡ map spelled (choice ∷ choices)
split_spelled choice [] short = slice_split_none (λ b. b == 32) (spelled choice) (no_space choice (All-head HasText choice [] short))
split_spelled choice (d ∷ choices) short =
    slice_split_at (λ b. b == 32) (spelled choice) 32 (spelled_all (d ∷ choices)) (no_space choice (All-head HasText choice (d ∷ choices) short)) refl
    ∙ ap (λ (others : List (List ℕ)). spelled choice ∷ others) (split_spelled d choices (All-tail HasText choice (d ∷ choices) short))

words_read : (choices : List Choice) → All HasText choices → choices_in (map spelled choices) ≡ Some choices
words_read [] short = refl
words_read (choice ∷ choices) short =
    rw (choice_read choice (All-head HasText choice choices short), words_read choices (All-tail HasText choice choices short))

spelled_some : (choice : Choice) → HasText choice → 0 < length (spelled choice)
spelled_some (Client n) small = omega arith
spelled_some (Message n) small = omega arith
spelled_some (Lost n) small = omega arith
spelled_some (Repeated n) none = absurd none

all_some : (choice : Choice) (choices : List Choice) → HasText choice → 0 < length (spelled_all (choice ∷ choices))
all_some choice [] has = spelled_some choice has
all_some choice (d ∷ choices) has = omega (arith, spelled_some choice has, length-append (spelled choice) (32 ∷ spelled_all (d ∷ choices)))

-- a text of choices is read as these
pub choices_of-spelled : (text : List ℕ) (choices : List Choice) → Lists text choices → choices_of text ≡ Some choices
choices_of-spelled text [] h = rw h.whole
choices_of-spelled text (choice ∷ choices) h =
    rw h.whole (choices_of-some (spelled_all (choice ∷ choices)) (all_some choice choices (All-head HasText choice choices h.written)) ∙ (ap choices_in (split_spelled choice choices h.written) ∙ words_read (choice ∷ choices) h.written))

-- and so by whatever answers what the text comes to
pub only_choices : (text : List ℕ) (r : Result (Listed Choice) ChoicesError) → IfOk r (λ choices. choices_of text ≡ Some choices.items)
    → IfErr r (λ why. ((why ≡ fault.Choice) × (choices_of text ≡ None)) ⊎ (why ≡ fault.Memory)) → (choices : List Choice) → Lists text choices
    → MatchResult r (λ read. read.items ≡ choices) (λ why. why ≡ fault.Memory)
only_choices text (Ok read) ok err choices h = same_Some _ _ (sym ok ∙ choices_of-spelled text choices h)
only_choices text (Err why) ok err choices h =
    elim err [
      | inl w ↦ absurd (let clash : None ≡ Some choices = sym w.1 ∙ choices_of-spelled text choices h in cc)
      | inr memory ↦ memory
    ]

-- a text with a word that is not one
pub refused_word : (text : List ℕ) (place : ℕ) (done : List Choice) (word : List ℕ) (why : ChoicesError) → 0 < length text → place < length (slice_split (λ b. b == 32) text)
    → word ≡ get_or (slice_split (λ b. b == 32) text) place word → ((why ≡ fault.Choice) × (choice_of word ≡ None)) ⊎ (why ≡ fault.Memory)
    → IsChosenTo (slice_split (λ b. b == 32) text) place done → ((why ≡ fault.Choice) × (choices_of text ≡ None)) ⊎ (why ≡ fault.Memory)
refused_word text place done word why some lt is refusal h =
    elim refusal [
      | inl w ↦ inl (w.0, choices_of-some text some ∙ IsChosenTo-refused (slice_split (λ b. b == 32) text) place done word lt is w.1 h)
      | inr memory ↦ inr memory
    ]
