-- What `ra node` reads and writes, and its exit status.
use Rattle.std.specs.Prelude.{◌≡◌, ℕ, List, ◌++◌, Option, Result, Ok, Err, codes}
use Rattle.std.specs.Io.KnownBytes.{Appends}
use Rattle.ra_book_text.specs.Book.{IsOwed}
use Rattle.ra_book_text.specs.declared.error.BookFault.{BookFault}
use Rattle.ra_book_text.specs.declared.error.BookFault.TheVariants.{Line, Read, Write}

-- the status, by how the book ended: at the end of the input, at a line that is no first line, or by a fault of the
-- reader or the writer
abbrev pub node_status : Result (Unit {0}) BookFault → ℕ
node_status (Ok done) = 0
node_status (Err Line) = 2
node_status (Err Read) = 1
node_status (Err Write) = 1

-- What was written of these answers: all of them, and after a fault of the reader a line that says so, or as much of it
-- as the writer took. If the writer failed before, it is a prefix of the answers.
abbrev pub IsTold : (before after : Option (List ℕ)) → (answers : List ℕ) → Result (Unit {0}) BookFault → Type 0
IsTold before after answers (Ok done) = Appends before after answers
IsTold before after answers (Err Line) = Appends before after answers
IsTold before after answers (Err Read) =
    (said rest : List ℕ) × (codes "refused Read\n" ≡ said ++ rest) × Appends before after (answers ++ said)
IsTold before after answers (Err Write) = (prefix rest : List ℕ) × (answers ≡ prefix ++ rest)
    × Appends before after prefix

-- The answers that are owed to what was read were written, and this is the status. `old` and `new` are what is left in
-- the reader before and after it, and `before` and `after` what the writer contains, if they tell.
abbrev pub ServesNode : (old new before after : Option (List ℕ)) → ℕ → Type 0
ServesNode old new before after status = (answers : List ℕ) × (end : Result (Unit {0}) BookFault)
    × IsOwed old new answers end × IsTold before after answers end × (status ≡ node_status end)
