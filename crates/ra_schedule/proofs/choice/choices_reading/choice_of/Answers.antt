use Rattle.std.proofs.Common.{◌≡◌, ◌≤◌, ◌-◌, ℕ, Bool, true, false, Option, Some, None, List, [], ◌∷◌, length, take, drop, get_or, refl, sym, ap, ◌∙◌, subst, arith}
use Rattle.std.specs.Prelude.{if◌then◌else◌}
use Rattle.std.proofs.lemmas.List.{take_all}
use Rattle.ra_schedule.specs.declared.choice.Choice.{Choice}
use Rattle.ra_schedule.specs.declared.choice.Choice.TheVariants.{Client, Message, Lost}
use Rattle.ra_schedule.specs.ChoicesText.{is_decimal, decimal_value, decimal_of, choice_with, choice_of}
use Rattle.ra_schedule.proofs.choice.choices_reading.choice_of.Goals as goal

-- what follows the first byte
tail_is : (byte : ℕ) (bytes : List ℕ) → take (length (byte ∷ bytes) - 1) (drop 1 (byte ∷ bytes)) ≡ bytes
tail_is byte bytes = take_all (length (byte ∷ bytes) - 1) bytes (omega arith)

without : (test : Bool) (value : ℕ) (x : Option Choice) → None ≡ (if test then Some value else None) → None ≡ (if test then x else None)
without true value x fails = absurd cc
without false value x fails = refl

with_it : (test : Bool) (value number : ℕ) (f : ℕ → Option Choice) → Some number ≡ (if test then Some value else None) → f number ≡ (if test then f value else None)
with_it true value number f is = let same : number ≡ value = cc in ap f same
with_it false value number f is = absurd cc

-- a word with no number after its letter spells no choice
no_number : (word : List ℕ) → 1 ≤ length word → None ≡ decimal_of (take (length word - 1) (drop 1 word)) → None ≡ choice_of word
no_number [] some fails = absurd (omega (arith, some))
no_number (byte ∷ bytes) some fails =
    without (is_decimal bytes) (decimal_value bytes) (choice_with byte (decimal_value bytes)) (subst (λ (digits : List ℕ). None ≡ decimal_of digits) (tail_is byte bytes) fails)

-- a letter and a number spell what the letter says
spells : (word : List ℕ) (letter number : ℕ) (choice : Choice) → 1 ≤ length word → Some number ≡ decimal_of (take (length word - 1) (drop 1 word))
    → get_or word 0 0 ≡ letter → choice_with letter number ≡ Some choice → Some choice ≡ choice_of word
spells [] letter number choice some value at is = absurd (omega (arith, some))
spells (byte ∷ bytes) letter number choice some value at is =
    sym is
    ∙ ap (λ (l : ℕ). choice_with l number) (sym at)
    ∙ with_it (is_decimal bytes) (decimal_value bytes) number (choice_with byte) (subst (λ (digits : List ℕ). Some number ≡ decimal_of digits) (tail_is byte bytes) value)

pub returns-in_err-number : goal.returns-in_err-number
returns-in_err-number c = c.from_residual.ensures ∙ no_number c.args.word.now c.in-len1-up.len_at_least c.in_err-number.ensures

pub returns-in-99 : goal.returns-in-99
returns-in-99 c =
    spells c.args.word.now 99 c.in_ok-number.number (Client c.in_ok-number.number) c.in-len1-up.len_at_least c.in_ok-number.ensures c.in-99.is refl

pub returns-in-109 : goal.returns-in-109
returns-in-109 c =
    spells c.args.word.now 109 c.in_ok-number.number (Message c.from.result) c.in-len1-up.len_at_least c.in_ok-number.ensures c.in-109.is (ap (λ (n : ℕ). Some (Message n)) (sym c.from.ensures))

pub returns-in-108 : goal.returns-in-108
returns-in-108 c =
    spells c.args.word.now 108 c.in_ok-number.number (Lost c.from-in-108.result) c.in-len1-up.len_at_least c.in_ok-number.ensures c.in-108.is (ap (λ (n : ℕ). Some (Lost n)) (sym c.from-in-108.ensures))
