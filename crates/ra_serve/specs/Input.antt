-- What is read of the next line. Its first bytes are kept.
use Rattle.std.specs.Prelude.{◌≡◌, ◌≢◌, ℕ, ◌≤◌, Bool, true, false, List, [], ◌∷◌, ◌++◌, All, Option, Result, Ok, Err, length, take}
use Rattle.std.specs.Io.KnownBytes.{Consumes, IsAtEnd}
use Rattle.ra_serve.specs.declared.line_input.Piece.{Piece}
use Rattle.ra_serve.specs.declared.line_input.Piece.TheVariants.{Part, Over, End}
use Rattle.ra_serve.specs.declared.line_input.TakenBytes.{TakenBytes}
use Rattle.ra_text.specs.declared.error.ReadFault.{ReadFault}
use Rattle.ra_text.specs.declared.error.ReadFault.TheVariants.{Read}

-- no line feed is among these bytes
abbrev pub HasNoFeed : List ℕ → Type 0
HasNoFeed bytes = All (λ byte. byte ≢ 10) bytes

-- the first bytes of a line, which are kept
abbrev pub IsKept : List ℕ → List ℕ → Type 0
IsKept line bytes = bytes ≡ take 4608 line

-- these bytes are kept after those that are kept of a line
abbrev pub Keeps : List ℕ → List ℕ → List ℕ → Type 0
Keeps old new part = (text : List ℕ) → IsKept text old → IsKept (text ++ part) new

-- the bytes are a part of a line, with its line feed if it is over
abbrev pub IsPiece : List ℕ → Bool → List ℕ → Type 0
IsPiece bytes true part = (bytes ≡ part ++ 10 ∷ []) × HasNoFeed part
IsPiece bytes false part = (bytes ≡ part) × HasNoFeed part

-- of the bytes that are shown, this many are taken: a part of a line, with its line feed if it is over. Its first bytes
-- are kept.
pub record KeepsShown (shown : List ℕ) (old new : List ℕ) (taken : TakenBytes) : Type 0 where
  pub part : List ℕ
  pub within : taken.count ≤ length shown
  pub is_piece : IsPiece (take taken.count shown) taken.is_over part
  pub keeps : Keeps old new part

-- so much was taken of what was shown
abbrev pub TakesShown : Option (List ℕ) → Option (List ℕ) → List ℕ → List ℕ → Result TakenBytes ReadFault → Type 0
TakesShown old new line line' (Ok taken) =
    (bytes : List ℕ) × (part : List ℕ) × Consumes old new bytes × (length bytes ≡ taken.count)
    × IsPiece bytes taken.is_over part × Keeps line line' part
TakesShown old new line line' (Err fault) = (fault ≡ Read) × Consumes old new [] × (line' ≡ line)

-- these bytes of a line were taken
abbrev pub TakesPiece : Option (List ℕ) → Option (List ℕ) → List ℕ → List ℕ → Result Piece ReadFault → Type 0
TakesPiece old new line line' (Ok Part) =
    (part : List ℕ) × Consumes old new part × HasNoFeed part × (1 ≤ length part) × Keeps line line' part
TakesPiece old new line line' (Ok Over) =
    (part : List ℕ) × Consumes old new (part ++ 10 ∷ []) × HasNoFeed part × Keeps line line' part
TakesPiece old new line line' (Ok End) = Consumes old new [] × IsAtEnd new × Keeps line line' []
TakesPiece old new line line' (Err fault) = (fault ≡ Read) × Consumes old new []
