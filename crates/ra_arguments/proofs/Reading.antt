-- What the parser's values say, by their rows.
use Rattle.std.proofs.Common.{◌≡◌, ◌∙◌, ◌<◌, ◌≤◌, ◌^◌, ◌&&◌, ℕ, Bool, true, false, List, [], ◌∷◌, Option, Some, None, Result, Ok, Err, Bor, length, refl, sym, ap}
use Rattle.std.specs.Prelude.{nat_le, nat_lt, option_and_then, option_map, is_some, unwrap_or}
use Rattle.std.specs.Char.{digit_value}
use Rattle.std.specs.List.{list_all}
use Rattle.std.specs.Str.Parse.{AllDigits, IsNumeral, ParsesUnsigned, digits_value, without_leading_plus}
use Rattle.std.proofs.lemmas.Bool.{false≢true, ltb-true, lt-ltb, leb-true, le-leb}
use Rattle.std.proofs.lemmas.Slice.Eq.{bytes_eq-Decides}
use Rattle.std.specs.Str.{bytes_eq}
use Rattle.clap.specs.Words.{ReadsOne, Row, Text, first_of, first_value, rows_of}
use Rattle.clap.specs.declared.parser.matches.Found.{Found}
use Rattle.clap.specs.ValueTests.{is_numeral}
use Rattle.clap.proofs.WalkLemmas.{both, first_value-rows}
use Rattle.ra_script.specs.declared.output_kind.OutputKind.{OutputKind}
use Rattle.ra_schedule.specs.declared.surveys.first_seed.Ending.{Ending}
use Rattle.ra_arguments.specs.declared.command_line.PolicyName.{PolicyName}
use Rattle.ra_arguments.specs.declared.form.Form.{Form}
use Rattle.ra_arguments.specs.declared.form.Form.TheVariants.{Json, Words}
use Rattle.ra_arguments.specs.declared.usage_fault.UsageCause.TheVariants.{Find, Json as NoObject}
use Rattle.ra_arguments.specs.Meanings.{numeral, run_by, sim}

digits_from : (digits : List ℕ) → list_all (λ d. nat_lt (digit_value d) 10) digits ≡ true → AllDigits 10 digits
digits_from [] e = tt
digits_from (d ∷ digits) e = let parts = both _ _ e in (ltb-true _ _ parts.0, digits_from digits parts.1)

digits_back : (digits : List ℕ) → AllDigits 10 digits → list_all (λ d. nat_lt (digit_value d) 10) digits ≡ true
digits_back [] h = refl
digits_back (d ∷ digits) h = rw (lt-ltb (digit_value d) 10 h.0) (digits_back digits h.1)

-- a text that the number is read from is one
is_number : (bits : ℕ) (digits : List ℕ) → IsNumeral 10 digits → digits_value 10 digits < 2 ^ bits
    → (is_numeral digits && nat_lt (digits_value 10 digits) (2 ^ bits)) ≡ true
is_number bits digits numeral small = rw (lt-ltb 0 (length digits) numeral.0, digits_back digits numeral.1) (lt-ltb _ _ small)

is_read : (bits : ℕ) (digits : List ℕ) → (is_numeral digits && nat_lt (digits_value 10 digits) (2 ^ bits)) ≡ true
    → IsNumeral 10 digits × (digits_value 10 digits < 2 ^ bits)
is_read bits digits e =
    let parts = both (is_numeral digits) _ e in
    let number = both _ _ parts.0 in
    ((ltb-true _ _ number.0, digits_from digits number.1), ltb-true _ _ parts.1)

pub number : (bits : ℕ) (text : Text) → IsNumeral 10 (without_leading_plus text) → digits_value 10 (without_leading_plus text) < 2 ^ bits
    → numeral bits text ≡ Some (digits_value 10 (without_leading_plus text))
number bits text digits small = rw (is_number bits (without_leading_plus text) digits small) refl

pub no_number : (bits : ℕ) (text : Text) → (IsNumeral 10 (without_leading_plus text) × (digits_value 10 (without_leading_plus text) < 2 ^ bits) → ⊥)
    → numeral bits text ≡ None
no_number bits text not = go (is_numeral (without_leading_plus text) && nat_lt (digits_value 10 (without_leading_plus text)) (2 ^ bits)) refl
  where
    go : (b : Bool) → (is_numeral (without_leading_plus text) && nat_lt (digits_value 10 (without_leading_plus text)) (2 ^ bits)) ≡ b → numeral bits text ≡ None
    go true e = absurd (not (is_read bits (without_leading_plus text) e))
    go false e = rw e refl

-- the number of a text, by what was read from it
pub number_of : {E : Type 0} (bits : ℕ) (text : Text) (result : Result ℕ E) → ParsesUnsigned bits 10 text result → (n : ℕ) → result ≡ Ok n → numeral bits text ≡ Some n
number_of bits text (Ok m) parsed n is = let same : m ≡ n = cc in number bits text parsed.0.0 parsed.0.1 ∙ ap Some (sym parsed.1 ∙ same)
number_of bits text (Err e) parsed n is = cc

pub no_number_of : {E : Type 0} (bits : ℕ) (text : Text) (result : Result ℕ E) → ParsesUnsigned bits 10 text result → ((n : ℕ) → result ≡ Ok n → ⊥) → numeral bits text ≡ None
no_number_of bits text (Ok m) parsed not = absurd (not m refl)
no_number_of bits text (Err e) parsed not = no_number bits text parsed

-- `get_one`, by the rows
pub read_number : {E : Type 0} (bits : ℕ) (gives : Text → Result ℕ E → Type 0) → ((text : Text) (result : Result ℕ E) → gives text result → ParsesUnsigned bits 10 text result)
    → (found : Option Text) (result : Option ℕ) → (found ≡ None → result ≡ None) → ((text : Text) → found ≡ Some text → ReadsOne gives text result)
    → result ≡ option_and_then (numeral bits) found
read_number bits gives only None result none value = none refl
read_number bits gives only (Some text) (Some n) none value =
    let parsed = only text (Ok n) (value text refl) in sym (number bits text parsed.0.0 parsed.0.1 ∙ ap Some (sym parsed.1))
read_number bits gives only (Some text) None none value =
    let bad = value text refl in sym (no_number bits text (only text (Err bad.0) bad.1))

-- a text that is not a word
pub other_word : (a b : Text) → (a ≡ b → ⊥) → bytes_eq a b ≡ false
other_word a b different = go (bytes_eq a b) refl
  where
    go : (same : Bool) → bytes_eq a b ≡ same → bytes_eq a b ≡ false
    go true e = absurd (different ((bytes_eq-Decides a b).0 e))
    go false e = e

-- what `get_str` gives, by the rows
pub text_given : (found : Found) (name text : Text) → Some text ≡ first_value found name → first_of name (rows_of found) ≡ Some text
text_given found name text given = sym (first_value-rows found name) ∙ sym given

pub none_given : (found : Found) (name : Text) → None ≡ first_value found name → first_of name (rows_of found) ≡ None
none_given found name given = sym (first_value-rows found name) ∙ sym given

-- the text that is given, or no text
pub text_or_nothing : (found : Found) (name : Text) (given : Option (Bor Text)) (other : Bor Text) → option_map (λ s. s.now) given ≡ first_value found name → other.now ≡ []
    → (unwrap_or given other).now ≡ unwrap_or (first_of name (rows_of found)) []
text_or_nothing found name None other is empty = rw (← first_value-rows found name, ← is) empty
text_or_nothing found name (Some text) other is empty = rw (← first_value-rows found name, ← is) refl

-- a first number above the last
pub above : (a b : ℕ) → (a ≤ b → ⊥) → nat_le a b ≡ false
above a b over = go (nat_le a b) refl
  where
    go : (least : Bool) → nat_le a b ≡ least → nat_le a b ≡ false
    go true e = absurd (over (leb-true _ _ e))
    go false e = e

pub at_most : (a b : ℕ) → a ≤ b → nat_le a b ≡ true
at_most a b less = le-leb _ _ less

-- whether one run is asked for
pub run_refused : (policy : PolicyName) (choices : Text) (printed : OutputKind) (ending : Option Ending) (form : Form) → is_some ending ≡ true
    → run_by policy choices printed ending form ≡ Err Find
run_refused policy choices printed (Some ending) form some = refl
run_refused policy choices printed None form some = absurd (false≢true some)

pub run_untold : (policy : PolicyName) (choices : Text) (printed : OutputKind) (ending : Option Ending) (form : Form) → is_some ending ≡ false → form ≡ Json
    → run_by policy choices printed ending form ≡ Err NoObject
run_untold policy choices printed (Some ending) form none is = absurd (false≢true (sym none))
run_untold policy choices printed None Json none is = refl
run_untold policy choices printed None Words none is = absurd cc

pub run_taken : (policy : PolicyName) (choices : Text) (printed : OutputKind) (ending : Option Ending) (form : Form) → is_some ending ≡ false
    → (form ≡ Json → ⊥) → run_by policy choices printed ending form ≡ Ok (sim policy choices printed)
run_taken policy choices printed (Some ending) form none other = absurd (false≢true (sym none))
run_taken policy choices printed None Words none other = refl
run_taken policy choices printed None Json none other = absurd (other refl)

-- the command of a parse with its values, by its name and by its values
pub entered : {X : Type 0} (name_of : X → Text) (values_of : X → List Row) (o : Option X) (name : Text) (rows : List Row) → Some name ≡ option_map name_of o
    → Some rows ≡ option_map (λ (p : Text × List Row). p.1) (option_map {U = Text × List Row} (λ x. (name_of x, values_of x)) o)
    → option_map {U = Text × List Row} (λ x. (name_of x, values_of x)) o ≡ Some (name, rows)
entered name_of values_of None name rows first second = cc
entered name_of values_of (Some x) name rows first second = cc
