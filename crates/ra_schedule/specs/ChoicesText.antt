-- How lists of choices are written.
use Rattle.std.specs.Prelude.{◌≡◌, ◌<◌, ◌≤◌, ◌^◌, All, ℕ, ◌+◌, ◌*◌, ◌-◌, nat_le, ◌==◌, ◌&&◌, ◌||◌, Bool, not, List, [], ◌∷◌, length, slice_index, Option, Some, None, if◌then◌else◌, option_map, option_and_then, fold, map, take}
use Rattle.std.specs.Char.{is_ascii_digit}
use Rattle.std.specs.Fmt.{decimal}
use Rattle.std.specs.List.{list_all, slice_split, join_with_byte}
use Rattle.ra_schedule.specs.declared.choice.Choice.{Choice}
use Rattle.ra_schedule.specs.declared.choice.Choice.TheVariants.{Client, Message, Lost, Repeated}

-- whether these are 1 to 9 digits without leading zeros
abbrev pub is_decimal : List ℕ → Bool
is_decimal digits =
    ((nat_le 1 (length digits) && nat_le (length digits) 9) && list_all is_ascii_digit digits)
    && (length digits == 1 || not (slice_index digits 0 == 48))

-- the number that decimal digits spell
abbrev pub decimal_value : List ℕ → ℕ
decimal_value digits = fold (λ value digit. 10 * value + (digit - 48)) 0 digits

-- the number of 1 to 9 digits without leading zeros, if these are such digits
abbrev pub decimal_of : List ℕ → Option ℕ
decimal_of digits = if is_decimal digits then Some (decimal_value digits) else None

-- the choice of a letter and a number: `c` for a client's next operation, `m` for a message to deliver, `l` for one to
-- lose
abbrev pub choice_with : ℕ → ℕ → Option Choice
choice_with letter number =
    if letter == 99 then Some (Client number)
    else if letter == 109 then Some (Message number)
    else if letter == 108 then Some (Lost number)
    else None

-- the choice that a word spells: a letter, and then a decimal number
abbrev pub choice_of : List ℕ → Option Choice
choice_of [] = None
choice_of (letter ∷ digits) = if is_decimal digits then choice_with letter (decimal_value digits) else None

-- the choices that words spell, if each word spells one
abbrev pub choices_in : List (List ℕ) → Option (List Choice)
choices_in [] = Some []
choices_in (word ∷ words) =
    option_and_then (λ choice. option_map (λ choices. choice ∷ choices) (choices_in words)) (choice_of word)

-- the choices of a text: the choices of the words between its spaces, and no choices if it is empty
abbrev pub choices_of : List ℕ → Option (List Choice)
choices_of [] = Some []
choices_of (byte ∷ bytes) = choices_in (slice_split (λ b. b == 32) (byte ∷ bytes))

-- a front of the text's words, with at least one of them, each of which spells a choice
pub record HasChoicesFirst (text : List ℕ) : Type 0 where
  pub count : ℕ
  pub some : 1 ≤ count
  pub front : List Choice
  pub read : choices_in (take count (slice_split (λ b. b == 32) text)) ≡ Some front

-- a choice as it is written; a repeat has no text
abbrev pub spelled : Choice → List ℕ
spelled (Client number) = 99 ∷ decimal number
spelled (Message place) = 109 ∷ decimal place
spelled (Lost place) = 108 ∷ decimal place
spelled (Repeated place) = []

-- choices as they are written, with a space between each two
abbrev pub spelled_all : List Choice → List ℕ
spelled_all choices = join_with_byte 32 (map spelled choices)

-- a choice can be written: its number has at most nine digits, and it is not a repeat
abbrev pub HasText : Choice → Type 0
HasText (Client number) = number < 10 ^ 9
HasText (Message place) = place < 10 ^ 9
HasText (Lost place) = place < 10 ^ 9
HasText (Repeated place) = ⊥

-- the text is these choices as they are written, and each of them can be written
pub record Lists (text : List ℕ) (choices : List Choice) : Type 0 where
  pub whole : text ≡ spelled_all choices
  pub written : All HasText choices
