-- How the first line of a book is answered, and those after it.
use Rattle.std.specs.Prelude.{◌≡◌, ℕ, List, [], ◌∷◌, Option, Result, Ok, Err, codes}
use Rattle.std.specs.Io.KnownBytes.{IsAtEnd}
use Rattle.ra_book_text.specs.declared.error.BookFault.{BookFault}
use Rattle.ra_book_text.specs.declared.error.BookFault.TheVariants.{Line, Read, Write}
use Rattle.ra_book_text.specs.declared.answering.line_refusal.Refusal.TheVariants as refusal
use Rattle.ra_book_text.specs.BookText.{IsFirst, IsNoFirst}
use Rattle.ra_book_text.specs.declared.next_line.book_version.BookVersion.{BookVersion}
use Rattle.ra_book.specs.Timed.{Timed}
use Rattle.ra_book_text.specs.declared.next_line.first_line.FirstLine.{FirstLine}
use Rattle.ra_book_text.specs.Answers.{AnswersAll, refused_line}
use Rattle.ra_book_text.specs.Book.{HasRead, IsNoBook}

-- the line says this as the first one of a book
abbrev pub SaysFirst : List ℕ → FirstLine → Type 0
SaysFirst line first = IsFirst line first.version first.member.node first.member.nodes first.start

-- the answer to this first line
abbrev pub OpensBy : List ℕ → List ℕ → Result FirstLine BookFault → Type 0
OpensBy line text (Ok first) = SaysFirst line first × (text ≡ codes "ok\n")
OpensBy line text (Err Line) = IsNoFirst line × (text ≡ refused_line refusal.Line)
OpensBy line text (Err Read) = ⊥
OpensBy line text (Err Write) = ⊥

-- the first line was read, with this answer
abbrev pub Opens : Option (List ℕ) → Option (List ℕ) → List ℕ → Result FirstLine BookFault → Type 0
Opens old new text (Ok first) =
    (line : List ℕ) × HasRead old new (line ∷ []) [] × SaysFirst line first × (text ≡ codes "ok\n")
Opens old new text (Err Line) = IsNoBook old new × (text ≡ refused_line refusal.Line)
Opens old new text (Err Read) = (part : List ℕ) × HasRead old new [] part × (text ≡ [])
Opens old new text (Err Write) = (part : List ℕ) × HasRead old new [] part × (text ≡ [])

-- lines were read, with these answers, and then bytes without a line feed
abbrev pub AnswersSome : BookVersion → Option (List ℕ) → Option (List ℕ) → Timed → List ℕ → Timed → Type 0
AnswersSome version old new before text after =
    (lines : List (List ℕ)) × (part : List ℕ) × HasRead old new lines part × AnswersAll version before lines text after

-- the lines after the first were read, with these answers
abbrev pub Serves : BookVersion → Option (List ℕ) → Option (List ℕ) → Timed → List ℕ → Timed
    → Result (Unit {0}) BookFault → Type 0
Serves version old new before text after (Ok done) = AnswersSome version old new before text after × IsAtEnd new
Serves version old new before text after (Err Line) = ⊥
Serves version old new before text after (Err Read) = AnswersSome version old new before text after
Serves version old new before text after (Err Write) = AnswersSome version old new before text after
