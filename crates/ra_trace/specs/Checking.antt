-- Which lines a checker has taken. No public contract speaks of it.
use Rattle.std.specs.Prelude.{◌≡◌, ◌≢◌, ℕ, cond, List, [], ◌∷◌, ◌++◌, Result, Ok, Err, drop}
use Rattle.ra_stamp.specs.declared.entry.Mark.{Mark}
use Rattle.ra_stamp.specs.declared.message.Message.{Message}
use Rattle.ra_table.specs.Table.{empty_table, TableRun}
use Rattle.ra_world.specs.Run.{IsRun}
use Rattle.ra_trace.specs.declared.error.TraceError.{TraceError}
use Rattle.ra_trace.specs.declared.error.TraceError.TheVariants.{Memory}
use Rattle.ra_trace.specs.declared.line.Line.{Line}
use Rattle.ra_trace.specs.declared.line.Line.TheVariants.{First, Stepped, Sent, Marked, Last}
use Rattle.ra_trace.specs.declared.checker.verdict.Cause.{Cause}
use Rattle.ra_trace.specs.declared.checker.Checker.{Checker}
use Rattle.ra_trace.specs.declared.checker.Judgement.{Judgement}
use Rattle.ra_trace.specs.declared.checker.Judgement.TheVariants as next
use Rattle.ra_trace.specs.declared.line.version.Version.{Version}
use Rattle.ra_trace.specs.Forms.{IsReadable, BeginsReadable}
use Rattle.ra_trace.specs.Verdict.{Due, IsTracePrefix, marks_due, marks_in, IsWrong}
use Rattle.ra_trace.specs.Version.{has_sends}
use Rattle.ra_trace.specs.Reading.{HasBegun}

-- the messages of the last step that have not been told yet, if the version tells them
abbrev pub unsent_of : Checker → List Message
unsent_of checker = cond (has_sends checker.version) (drop checker.told checker.sends.items) []

-- the marks of the last step that have not come yet
abbrev pub due_of : Checker → List Mark
due_of checker = drop checker.come checker.marks.items

-- what of the last step has not come yet
abbrev pub all_due : Checker → Due
all_due checker = record { sends = unsent_of checker; marks = due_of checker }

-- the same is due as before
abbrev pub HasSameDue : Checker → Checker → Type 0
HasSameDue old new = all_due new ≡ all_due old

-- the checker has taken these lines: they are a prefix of a trace, the world has made its steps, and the lock table its
-- marks
pub record IsCheckerOf (checker : Checker) (lines : List Line) : Type 0 where
  pub prefix : IsTracePrefix checker.version checker.world.count checker.world.start checker.world.moves
      (all_due checker) lines
  pub table : TableRun (marks_in lines) checker.table

-- nothing has happened yet in a cluster of this many nodes
pub record IsOpening (version : Version) (nodes start : ℕ) (checker : Checker) : Type 0 where
  pub version_is : checker.version ≡ version
  pub world_is : checker.world ≡ record { count = nodes; start = start; moves = [] }
  pub run : IsRun checker.world.count checker.world.start checker.world.moves
  pub table_is : checker.table ≡ empty_table
  pub none : all_due checker ≡ marks_due []

-- a checker that had taken some lines has then taken this one, too, if it is readable
pub record TakesOn (old : Checker) (line : Line) (new : Checker) : Type 0 where
  pub on : (lines : List Line) → IsReadable line → IsCheckerOf old lines → IsCheckerOf new (lines ++ line ∷ [])

-- a line that is right is the next one of the prefix, or the last one if nothing is due
abbrev pub Takes : Checker → Line → Checker → Type 0
Takes old (First version nodes start) new = ⊥
Takes old (Stepped step) new = TakesOn old (Stepped step) new
Takes old (Sent message) new = TakesOn old (Sent message) new
Takes old (Marked mark) new = TakesOn old (Marked mark) new
Takes old Last new = (new ≡ old) × (all_due old ≡ marks_due [])

-- the line is wrong for this cause, after any lines that the checker may have taken
pub record Refuses (checker : Checker) (line : Line) (why : Cause) : Type 0 where
  pub wrong : (lines : List Line) (text rest : List ℕ) → IsCheckerOf checker lines → BeginsReadable text line rest
      → IsWrong lines text why

-- the line is right after any lines that the checker may have taken, whether or not there is memory for it
pub record Allows (checker : Checker) (line : Line) : Type 0 where
  pub right : (lines : List Line) → IsReadable line → IsCheckerOf checker lines → HasBegun (lines ++ line ∷ [])

-- what a checker answers to a line: that it is right, and whether it is the last one, or why it is wrong
abbrev pub Judged : Checker → Line → Checker → Result Judgement TraceError → Type 0
Judged old given new (Ok next.Right) = (given ≢ Last) × Takes old given new
Judged old given new (Ok next.Last) = (given ≡ Last) × Takes old given new
Judged old given new (Ok (next.Wrong why)) = Refuses old given why
Judged old given new (Err fault) = (fault ≡ Memory) × Allows old given
