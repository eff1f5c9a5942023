-- What was read of a book, and what was answered to it.
use Rattle.std.specs.Prelude.{◌≡◌, ◌≢◌, ◌⊎◌, ℕ, List, [], ◌∷◌, ◌++◌, All, Option, Result, Ok, Err, codes, flat_map}
use Rattle.std.specs.Io.KnownBytes.{Appends, Consumes, IsAtEnd}
use Rattle.ra_book_text.specs.declared.error.BookFault.{BookFault}
use Rattle.ra_book_text.specs.declared.error.BookFault.TheVariants.{Line, Read, Write}
use Rattle.ra_book_text.specs.declared.answering.line_refusal.Refusal.TheVariants as refusal
use Rattle.ra_book_text.specs.BookText.{IsFirst, IsNoFirst}
use Rattle.ra_book_text.specs.declared.next_line.book_version.BookVersion.{BookVersion}
use Rattle.ra_book.specs.Timed.{Timed, opening}
use Rattle.ra_book_text.specs.Answers.{AnswersAll, refused_line}
use Rattle.ra_book_text.specs.Input.{HasNoFeed}

-- the text of lines, each with its line feed
abbrev pub lines_text : List (List ℕ) → List ℕ
lines_text lines = flat_map (λ line. line ++ 10 ∷ []) lines

-- these lines were read, and then bytes without a line feed
pub record HasRead (old new : Option (List ℕ)) (lines : List (List ℕ)) (part : List ℕ) : Type 0 where
  pub taken : Consumes old new (lines_text lines ++ part)
  pub each : All HasNoFeed lines
  pub rest : HasNoFeed part

-- the answers to the book that has these lines so far: `ok` to its first line, and then what its node answers
abbrev pub AnswersBook : List (List ℕ) → List ℕ → Type 0
AnswersBook [] text = text ≡ []
AnswersBook (line ∷ lines) text =
    (version : BookVersion) × (node : ℕ) × (nodes : ℕ) × (start : ℕ) × (new : Timed) × (rest : List ℕ)
    × IsFirst line version node nodes start
    × (text ≡ codes "ok\n" ++ rest) × AnswersAll version (opening node nodes start) lines rest new

-- what was read is no book: its first line begins none, or it ends before its first line feed
abbrev pub IsNoBook : Option (List ℕ) → Option (List ℕ) → Type 0
IsNoBook old new =
    ((line : List ℕ) × HasRead old new (line ∷ []) [] × IsNoFirst line)
    ⊎ ((part : List ℕ) × HasRead old new [] part × IsAtEnd new)

-- what was read is a book so far, and these are the answers to its lines
abbrev pub IsAnswered : Option (List ℕ) → Option (List ℕ) → List ℕ → Type 0
IsAnswered old new text =
    (lines : List (List ℕ)) × (part : List ℕ) × HasRead old new lines part × AnswersBook lines text

-- What was read, and what is to be written of it when a fault ends it, or the end of the input does. The writer's fault
-- may come at any line.
abbrev pub IsOwed : Option (List ℕ) → Option (List ℕ) → List ℕ → Result (Unit {0}) BookFault → Type 0
IsOwed old new text (Ok done) = IsAnswered old new text × (text ≢ []) × IsAtEnd new
IsOwed old new text (Err Line) = IsNoBook old new × (text ≡ refused_line refusal.Line)
IsOwed old new text (Err Read) = IsAnswered old new text
IsOwed old new text (Err Write) = IsAnswered old new text ⊎ (IsNoBook old new × (text ≡ refused_line refusal.Line))

-- What was written of it: all, unless the writer failed.
abbrev pub IsWritten : Option (List ℕ) → Option (List ℕ) → List ℕ → Result (Unit {0}) BookFault → Type 0
IsWritten old new text (Ok done) = Appends old new text
IsWritten old new text (Err Line) = Appends old new text
IsWritten old new text (Err Read) = Appends old new text
IsWritten old new text (Err Write) =
    (prefix : List ℕ) × (rest : List ℕ) × (text ≡ prefix ++ rest) × Appends old new prefix
