-- Decimals, and the choices of words.
use Rattle.std.proofs.Common.{lit<, ◌≡◌, ℕ, ◌+◌, ◌-◌, ◌*◌, ◌^◌, ◌<◌, ◌≤◌, true, ◌&&◌, ◌||◌, ◌==◌, not, nat_le, List, [], ◌∷◌, ◌++◌, length, get_or, take, drop, Option, Some, None, option_map, refl, sym, ap, ◌∙◌, subst, arith, append_assoc, inl, inr}
use Rattle.std.proofs.Math.Nat.{pow-le-pow_right}
use Rattle.std.proofs.Math.Bool.{or-true}
use Rattle.std.proofs.lemmas.Bool.{cases_Bool, and_parts, le-leb, leb-true, eqb-true}
use Rattle.std.proofs.lemmas.Bool.Decides.{nat_tests}
use Rattle.std.proofs.lemmas.Grind.{pow_more}
use Rattle.std.proofs.lemmas.List.{append-nil, drop_all, at_drop_more, take_more}
use Rattle.std.proofs.lemmas.List.Sums.{fold_more}
use Rattle.std.specs.Char.{is_ascii_digit}
use Rattle.std.specs.List.{list_all, slice_split}
use Rattle.ra_schedule.specs.declared.choice.Choice.{Choice}
use Rattle.ra_schedule.specs.ChoicesText.{is_decimal, decimal_value, decimal_of, choice_of, choices_in, choices_of}

-- a number of eight digits or fewer
pub small_power : (value place : ℕ) → value < 10 ^ place → place < 9 → value < 100000000
small_power value place small few =
    let at_most : 10 ^ place ≤ 10 ^ 8 = pow-le-pow_right {n = 10} (lit< tt) {i = place} {j = 8} (omega arith) in omega arith

-- one more digit
pub small_more : (value place digit : ℕ) → value < 10 ^ place → digit < 10 → 10 * value + digit < 10 ^ (place + 1)
small_more value place digit small one = let more = pow_more 10 place in omega (arith, more)

digit_below : (byte : ℕ) → is_ascii_digit byte ≡ true → byte - 48 < 10
digit_below byte is = let (low, high) = and_parts (nat_le 48 byte) (nat_le byte 57) is in let most = leb-true byte 57 high in omega (arith, most)

-- the number with another digit
pub decimal_more : (digits : List ℕ) (i value digit : ℕ) → i < length digits → is_ascii_digit (get_or digits i 0) ≡ true → digit ≡ get_or digits i 0 - 48
    → value ≡ decimal_value (take i digits) → value < 10 ^ i
    → (10 * value + digit ≡ decimal_value (take (i + 1) digits)) × (10 * value + digit < 10 ^ (i + 1))
decimal_more digits i value digit less here is so_far small = (
  ap (λ (d : ℕ). 10 * value + d) is
      ∙ ap (λ (v : ℕ). 10 * v + (get_or digits i 0 - 48)) so_far
      ∙ sym (fold_more (λ value digit. 10 * value + (digit - 48)) 0 digits i 0 less),
  small_more value i digit small (subst (λ (d : ℕ). d < 10) (sym is) (digit_below (get_or digits i 0) here)),
)

-- a decimal has one to nine digits; if it has several, the first one is not 0
pub record IsDecimal (digits : List ℕ) : Type 0 where
  pub some : 1 ≤ length digits
  pub few : length digits ≤ 9
  pub each : list_all is_ascii_digit digits ≡ true
  pub first : get_or digits 0 0 ≡ 48 → length digits ≡ 1

no_zero : (digits : List ℕ) → (length digits == 1 || not (get_or digits 0 0 == 48)) ≡ true → get_or digits 0 0 ≡ 48 → length digits ≡ 1
no_zero digits h zero = grind (arith, nat_tests)

one_or_no_zero : (digits : List ℕ) → (get_or digits 0 0 ≡ 48 → length digits ≡ 1) → (length digits == 1 || not (get_or digits 0 0 == 48)) ≡ true
one_or_no_zero digits h =
    elim (cases_Bool (get_or digits 0 0 == 48)) [
      | inl zero ↦ rw (h (eqb-true (get_or digits 0 0) 48 zero))
      | inr other ↦ rw (other, or-true)
    ]

pub decimal_parts : (digits : List ℕ) → is_decimal digits ≡ true → IsDecimal digits
decimal_parts digits h =
    let (most, first) = and_parts ((nat_le 1 (length digits) && nat_le (length digits) 9) && list_all is_ascii_digit digits) (length digits == 1 || not (get_or digits 0 0 == 48)) h in
    let (lengths, each) = and_parts (nat_le 1 (length digits) && nat_le (length digits) 9) (list_all is_ascii_digit digits) most in
    let (some, few) = and_parts (nat_le 1 (length digits)) (nat_le (length digits) 9) lengths in
    record { some = leb-true 1 (length digits) some; few = leb-true (length digits) 9 few; each = each; first = no_zero digits first }

pub decimal_of_parts : (digits : List ℕ) → IsDecimal digits → is_decimal digits ≡ true
decimal_of_parts digits is =
    rw (le-leb 1 (length digits) is.some, le-leb (length digits) 9 is.few, is.each) (one_or_no_zero digits is.first)

-- what is no decimal has no number
pub no_decimal : (digits : List ℕ) → (IsDecimal digits → ⊥) → None ≡ decimal_of digits
no_decimal digits not = elim (cases_Bool (is_decimal digits)) [ inl is ↦ absurd (not (decimal_parts digits is)) | inr is ↦ rw is ]

-- the words up to a place were read as these
pub record IsChosenTo (words : List (List ℕ)) (place : ℕ) (done : List Choice) : Type 0 where
  pub same : choices_in words ≡ option_map (λ rest. done ++ rest) (choices_in (drop place words))

none_done : (o : Option (List Choice)) → o ≡ option_map (λ rest. [] ++ rest) o
none_done None = refl
none_done (Some rest) = refl

one_done : (done : List Choice) (x : Choice) (o : Option (List Choice)) → option_map (λ rest. done ++ rest) (option_map (λ others. x ∷ others) o) ≡ option_map (λ rest. (done ++ x ∷ []) ++ rest) o
one_done done x None = refl
one_done done x (Some rest) = ap Some (sym (append_assoc done (x ∷ []) rest))

pub IsChosenTo-more : (words : List (List ℕ)) (place : ℕ) (done : List Choice) (word : List ℕ) (x : Choice) → place < length words → word ≡ get_or words place word → choice_of word ≡ Some x
    → IsChosenTo words place done → IsChosenTo words (place + 1) (done ++ x ∷ [])
IsChosenTo-more words place done word x lt is seen h =
    let step = at_drop_more choices_in words place word lt in
    record { same = h.same ∙ rw (step, sym is, seen) (one_done done x (choices_in (drop (place + 1) words))) }

pub IsChosenTo-all : (words : List (List ℕ)) (place : ℕ) (done : List Choice) → length words ≤ place → IsChosenTo words place done → choices_in words ≡ Some done
IsChosenTo-all words place done past h = h.same ∙ rw (drop_all place words past) (ap Some (append-nil done))

-- a word that is no choice
pub IsChosenTo-refused : (words : List (List ℕ)) (place : ℕ) (done : List Choice) (word : List ℕ) → place < length words → word ≡ get_or words place word → choice_of word ≡ None
    → IsChosenTo words place done → choices_in words ≡ None
IsChosenTo-refused words place done word lt is unread h =
    let step = at_drop_more choices_in words place word lt in rw (h.same, step, sym is, unread)

-- another word that is a choice
one_word_more : (words : List (List ℕ)) (done : List Choice) (word : List ℕ) (x : Choice) → choices_in words ≡ Some done → choice_of word ≡ Some x
    → choices_in (words ++ word ∷ []) ≡ Some (done ++ x ∷ [])
one_word_more [] done word x before is = let none : [] ≡ done = cc in rw (is, ← none) refl
one_word_more (w ∷ words) done word x before is = go (choice_of w) refl (choices_in words) refl (λ cs f. one_word_more words cs word x f is)
  where
    go : (first : Option Choice) → choice_of w ≡ first → (rest : Option (List Choice)) → choices_in words ≡ rest
        → ((cs : List Choice) → choices_in words ≡ Some cs → choices_in (words ++ word ∷ []) ≡ Some (cs ++ x ∷ [])) → choices_in ((w ∷ words) ++ word ∷ []) ≡ Some (done ++ x ∷ [])
    go None e rest f more = let clash = rw e at before in cc
    go (Some c) e None f more = let clash = rw (e, f) at before in cc
    go (Some c) e (Some cs) f more =
        let both = rw (e, f) at before in let same : c ∷ cs ≡ done = cc in rw (e, more cs f, ← same) refl

pub one_choice_more : (words : List (List ℕ)) (place : ℕ) (done : List Choice) (word : List ℕ) (x : Choice) → place < length words → word ≡ get_or words place word → choice_of word ≡ Some x
    → choices_in (take place words) ≡ Some done → choices_in (take (place + 1) words) ≡ Some (done ++ x ∷ [])
one_choice_more words place done word x lt at is before =
    ap choices_in (take_more words place word lt ∙ ap (λ (w : List ℕ). take place words ++ w ∷ []) (sym at)) ∙ one_word_more (take place words) done word x before is

-- a text with some bytes is the words between its spaces
pub choices_of-some : (text : List ℕ) → 0 < length text → choices_of text ≡ choices_in (slice_split (λ b. b == 32) text)
choices_of-some [] some = absurd (omega arith)
choices_of-some (b ∷ text) some = refl
