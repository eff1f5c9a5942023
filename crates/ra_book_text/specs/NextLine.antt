-- How the next line is read.
use Rattle.std.specs.Prelude.{ℕ, true, false, List, Bool, Option, Result, Ok, Err}
use Rattle.std.specs.Io.KnownBytes.{IsAtEnd}
use Rattle.ra_book_text.specs.declared.error.BookFault.{BookFault}
use Rattle.ra_book_text.specs.declared.error.BookFault.TheVariants.{Line, Read, Write}
use Rattle.ra_book_text.specs.declared.next_line.kept_line.KeptLine.{KeptLine}
use Rattle.ra_book_text.specs.Input.{TakesLine, TakesOpen}

abbrev pub ReadsLine : Option (List ℕ) → Option (List ℕ) → KeptLine → Result Bool BookFault → Type 0
ReadsLine old new line (Ok true) = TakesLine old new line
ReadsLine old new line (Ok false) = TakesOpen old new × IsAtEnd new
ReadsLine old new line (Err Read) = TakesOpen old new
ReadsLine old new line (Err Write) = TakesOpen old new
ReadsLine old new line (Err Line) = ⊥
