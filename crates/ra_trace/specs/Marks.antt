-- Mark logs: what a lock service wrote down, a line for each request, grant, release and withdrawal, as traces of
-- version 3 have the lines of marks. The verdict on such a text is that the marks are a run of the lock table, or which
-- line is the first wrong one and why.
use Rattle.std.specs.Prelude.{◌≡◌, ◌≢◌, ◌⊎◌, ℕ, ◌+◌, List, [], ◌∷◌, ◌++◌, All, Contains, Option, Some, None, Result, Ok, Err, flat_map, length}
use Rattle.ra_stamp.specs.declared.entry.Mark.{Mark}
use Rattle.ra_stamp.specs.declared.entry.Mark.TheVariants.{Requested, Entered, Left, Withdrawn}
use Rattle.ra_table.specs.Table.{LockTable, TableRun, TableStep}
use Rattle.ra_table.specs.Laws.{AllowsMark}
use Rattle.ra_table.specs.Refusals.{IsNodeBusy, IsNotAbove, IsHeld, HasEarlier}
use Rattle.ra_text.specs.Lines.{mark_line}
use Rattle.ra_world.specs.Quiet.{requests_in}
use Rattle.ra_trace.specs.declared.error.TraceError.{TraceError}
use Rattle.ra_trace.specs.declared.error.TraceError.TheVariants.{Memory}
use Rattle.ra_trace.specs.declared.mark_log.marks_verdict.MarkCause.{MarkCause}
use Rattle.ra_trace.specs.declared.mark_log.marks_verdict.MarkCause.TheVariants as cause
use Rattle.ra_trace.specs.declared.mark_log.marks_verdict.MarksVerdict.{MarksVerdict}
use Rattle.ra_trace.specs.declared.mark_log.marks_verdict.MarksVerdict.TheVariants.{Valid, Invalid}
use Rattle.ra_trace.specs.declared.line.version.Version.TheVariants.{Three}
use Rattle.ra_trace.specs.TraceText.{IsMarkLine}

-- a line for each mark, in order
abbrev pub marks_text : List Mark → List ℕ
marks_text marks = flat_map mark_line marks

-- the fields of each mark are in their ranges, and the marks are a run of the lock table
pub record IsMarkRun (marks : List Mark) : Type 0 where
  pub lines : All (IsMarkLine Three) marks
  pub table : LockTable
  pub run : TableRun marks table

-- how many grants there were
abbrev pub grants_in : List Mark → ℕ
grants_in [] = 0
grants_in (Requested e ∷ marks) = grants_in marks
grants_in (Entered e ∷ marks) = grants_in marks + 1
grants_in (Left e ∷ marks) = grants_in marks
grants_in (Withdrawn e ∷ marks) = grants_in marks

-- the text begins with the line of a mark, each field in its range, and this is what follows
abbrev pub BeginsWithMark : List ℕ → Mark → List ℕ → Type 0
BeginsWithMark text mark rest = IsMarkLine Three mark × (text ≡ mark_line mark ++ rest)

-- the first cause that the lock table has to refuse a mark
abbrev pub TableRefuses : LockTable → Mark → MarkCause → Type 0
TableRefuses table (Requested e) why =
    ((why ≡ cause.NodeBusy) × IsNodeBusy table e)
    ⊎ ((why ≡ cause.NotAbove) × (IsNodeBusy table e → ⊥) × IsNotAbove table e)
TableRefuses table (Entered e) why =
    ((why ≡ cause.NotWaiting) × (Contains table.waiting e → ⊥))
    ⊎ ((why ≡ cause.Held) × Contains table.waiting e × IsHeld table e)
    ⊎ ((why ≡ cause.Earlier) × Contains table.waiting e × (IsHeld table e → ⊥) × HasEarlier table e)
TableRefuses table (Left e) why = (why ≡ cause.NotHeld) × (Contains table.holding e → ⊥)
TableRefuses table (Withdrawn e) why = (why ≡ cause.NotWaiting) × (Contains table.waiting e → ⊥)

-- what a lock table answers to a mark: that its step was made, or why the table refuses it
abbrev pub TriesMark : LockTable → Mark → LockTable → Result (Option MarkCause) TraceError → Type 0
TriesMark old mark new (Ok None) = TableStep old mark new
TriesMark old mark new (Ok (Some why)) = TableRefuses old mark why
TriesMark old mark new (Err fault) = (fault ≡ Memory) × AllowsMark old mark

-- why the text after these marks, which are a run of the lock table, is wrong: it does not begin with the line of a
-- mark, or it begins with a mark that the table after them refuses
abbrev pub IsWrongMark : List Mark → List ℕ → MarkCause → Type 0
IsWrongMark marks text why =
    ((why ≡ cause.Line) × (text ≢ []) × ((mark : Mark) (rest : List ℕ) → BeginsWithMark text mark rest → ⊥))
    ⊎ ((table : LockTable) × TableRun marks table × (mark : Mark) × (rest : List ℕ) × BeginsWithMark text mark rest
    × TableRefuses table mark why)

-- the text is the lines of a run of the lock table, with this many requests and grants; or this line of it, counted
-- from 1, is the first wrong one
abbrev pub IsMarksVerdict : List ℕ → MarksVerdict → Type 0
IsMarksVerdict text (Valid requests grants) =
    (marks : List Mark) × IsMarkRun marks × (text ≡ marks_text marks) × (requests ≡ requests_in marks)
    × (grants ≡ grants_in marks)
IsMarksVerdict text (Invalid line why) =
    (marks : List Mark) × (rest : List ℕ) × IsMarkRun marks × (text ≡ marks_text marks ++ rest)
    × (line ≡ length marks + 1)
    × IsWrongMark marks rest why
