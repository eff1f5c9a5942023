-- What is read of the next line.
use Rattle.std.specs.Prelude.{◌≡◌, ◌≢◌, ◌⊎◌, ℕ, ◌+◌, ◌<◌, ◌≤◌, ◌^◌, Bool, true, false, List, [], ◌∷◌, ◌++◌, All, Option, Result, Ok, Err, length, take}
use Rattle.std.specs.Io.KnownBytes.{Consumes, IsAtEnd}
use Rattle.ra_book_text.specs.declared.next_line.kept_line.KeptLine.{KeptLine}
use Rattle.ra_book_text.specs.declared.next_line.input_piece.Piece.{Piece}
use Rattle.ra_book_text.specs.declared.next_line.input_piece.Piece.TheVariants.{Part, Over, End}
use Rattle.ra_book_text.specs.declared.next_line.input_piece.TakenBytes.{TakenBytes}
use Rattle.ra_text.specs.declared.error.ReadFault.{ReadFault}
use Rattle.ra_text.specs.declared.error.ReadFault.TheVariants.{Read}

-- no line feed is among these bytes
abbrev pub HasNoFeed : List ℕ → Type 0
HasNoFeed bytes = All (λ byte. byte ≢ 10) bytes

-- what is kept of a line: all of it, or that it has more than 256 bytes
abbrev pub IsKeptLine : List ℕ → List ℕ → Bool → Type 0
IsKeptLine line bytes false = bytes ≡ line
IsKeptLine line bytes true = 256 < length line

-- these bytes are kept after those that are kept of a line
abbrev pub Keeps : KeptLine → KeptLine → List ℕ → Type 0
Keeps old new part =
    (text : List ℕ) → IsKeptLine text old.bytes.items old.is_long
    → IsKeptLine (text ++ part) new.bytes.items new.is_long

-- the bytes are a part of a line, with its line feed if it is over
abbrev pub IsPiece : List ℕ → Bool → List ℕ → Type 0
IsPiece bytes true part = (bytes ≡ part ++ 10 ∷ []) × HasNoFeed part
IsPiece bytes false part = (bytes ≡ part) × HasNoFeed part

-- this many of the bytes that are shown are kept, and they are all unless the line is over
pub record KeepsShown (shown : List ℕ) (old new : KeptLine) (taken : TakenBytes) : Type 0 where
  pub part : List ℕ
  pub within : taken.count ≤ length shown
  pub is_piece : IsPiece (take taken.count shown) taken.is_over part
  pub keeps : Keeps old new part

-- so much was taken of what was shown
abbrev pub TakesShown : Option (List ℕ) → Option (List ℕ) → KeptLine → KeptLine → Result TakenBytes ReadFault → Type 0
TakesShown old new line line' (Ok taken) =
    (bytes : List ℕ) × (part : List ℕ) × Consumes old new bytes × (length bytes ≡ taken.count)
    × IsPiece bytes taken.is_over part × Keeps line line' part
TakesShown old new line line' (Err fault) = (fault ≡ Read) × Consumes old new [] × (line' ≡ line)

-- these bytes of a line were taken
abbrev pub TakesPiece : Option (List ℕ) → Option (List ℕ) → KeptLine → KeptLine → Result Piece ReadFault → Type 0
TakesPiece old new line line' (Ok Part) =
    (part : List ℕ) × Consumes old new part × HasNoFeed part × (1 ≤ length part) × Keeps line line' part
TakesPiece old new line line' (Ok Over) =
    (part : List ℕ) × Consumes old new (part ++ 10 ∷ []) × HasNoFeed part × Keeps line line' part
TakesPiece old new line line' (Ok End) = Consumes old new [] × IsAtEnd new × Keeps line line' []
TakesPiece old new line line' (Err fault) = (fault ≡ Read) × Consumes old new []

-- the next line was taken with its line feed, and this is kept of it; or bytes without one
abbrev pub TakesLine : Option (List ℕ) → Option (List ℕ) → KeptLine → Type 0
TakesLine old new line =
    (text : List ℕ) × Consumes old new (text ++ 10 ∷ []) × HasNoFeed text
    × IsKeptLine text line.bytes.items line.is_long

abbrev pub TakesOpen : Option (List ℕ) → Option (List ℕ) → Type 0
TakesOpen old new = (text : List ℕ) × Consumes old new text × HasNoFeed text

-- as many bytes were taken as there are turns to take some
abbrev pub TakesMost : Option (List ℕ) → Option (List ℕ) → Type 0
TakesMost old new = (taken : List ℕ) × Consumes old new taken × (2 ^ 64 ≤ length taken + 1)

-- the reader failed, or gave all bytes that can be taken of it
abbrev pub HasEnded : Option (List ℕ) → Option (List ℕ) → Bool → Type 0
HasEnded old new failed = (failed ≡ true) ⊎ TakesMost old new
