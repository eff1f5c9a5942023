-- A text of lines, each ended by a line feed.
use Rattle.std.specs.Prelude.{◌≡◌, ◌⊎◌, ◌==◌, ◌++◌, [], ◌∷◌, ℕ, List, Bool, true, false}
use Rattle.std.specs.List.{concat}

-- a byte before these lines: a line of its own, or part of the first one. Bytes with no line feed after them are no
-- line
abbrev pub puts : Bool → ℕ → List (List ℕ) → List (List ℕ)
puts true byte lines = (byte ∷ []) ∷ lines
puts false byte [] = []
puts false byte (line ∷ lines) = (byte ∷ line) ∷ lines

-- the whole lines of a text, each with its line feed. What follows the last line feed is left out
abbrev pub lines : List ℕ → List (List ℕ)
lines [] = []
lines (byte ∷ text) = puts (byte == 10) byte (lines text)

-- the text without what follows its last line feed
abbrev pub whole : List ℕ → List ℕ
whole text = concat (lines text)

-- nothing follows its last line feed
abbrev pub IsWhole : List ℕ → Type 0
IsWhole text = whole text ≡ text

abbrev pub IsPrefixOf : List ℕ → List ℕ → Type 0
IsPrefixOf front text = (rest : List ℕ) × (front ++ rest ≡ text)

-- these are the others in their order, or some of them
abbrev pub AreAmong : List (List ℕ) → List (List ℕ) → Type 0
AreAmong [] others = Unit {0}
AreAmong (line ∷ lines) [] = ⊥
AreAmong (line ∷ lines) (other ∷ others) = ((line ≡ other) × AreAmong lines others) ⊎ AreAmong (line ∷ lines) others

-- these are the first ones of the others
abbrev pub AreFirst : List (List ℕ) → List (List ℕ) → Type 0
AreFirst lines others = (more : List (List ℕ)) × (lines ++ more ≡ others)
