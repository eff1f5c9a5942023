-- How far a checker has come in what it reads. No public contract speaks of it.
use Rattle.std.specs.Prelude.{◌≡◌, ℕ, ◌+◌, ◌-◌, ◌≤◌, List, Option, Some, None, Result, Ok, Err, flat_map, length}
use Rattle.std.specs.Io.KnownBytes.{Consumes}
use Rattle.ra_table.specs.Table.{TableRun}
use Rattle.ra_world.specs.Run.{marks_of}
use Rattle.ra_trace.specs.declared.error.TraceError.{TraceError}
use Rattle.ra_trace.specs.declared.checker.Checker.{Checker}
use Rattle.ra_trace.specs.declared.checker.Judgement.{Judgement}
use Rattle.ra_trace.specs.declared.checker.Judgement.TheVariants.{Right, Last, Wrong}
use Rattle.ra_trace.specs.declared.line.Line.{Line}
use Rattle.ra_trace.specs.declared.checker.verdict.Cause.TheVariants as cause
use Rattle.ra_trace.specs.declared.checker.verdict.Verdict.TheVariants.{Invalid}
use Rattle.ra_trace.specs.TraceText.{IsTraceIn, line_text, trace_lines}
use Rattle.ra_trace.specs.Reading.{AreRight, Judges, Answers}
use Rattle.ra_trace.specs.Checking.{IsCheckerOf}

-- these lines were taken, and the text may still have this many bytes
pub record HasTaken (limit left : ℕ) (old now : Option (List ℕ)) (prefix : List Line) : Type 0 where
  pub taken : Consumes old now (flat_map line_text prefix)
  pub room : length (flat_map line_text prefix) + left ≡ limit
  pub right : AreRight prefix

-- the lines so far are right, the last line is not among them, and the checker has taken them
pub record IsAlong (limit left : ℕ) (old now : Option (List ℕ)) (checker : Checker) (number : ℕ) : Type 0 where
  pub prefix : List Line
  pub so_far : HasTaken limit left old now prefix
  pub number_is : number ≡ length prefix + 1
  pub checker_is : IsCheckerOf checker prefix

-- the lines are a whole trace
pub record IsDone (limit left : ℕ) (old now : Option (List ℕ)) (checker : Checker) (number : ℕ) : Type 0 where
  pub prefix : List Line
  pub so_far : HasTaken limit left old now prefix
  pub number_is : number ≡ length prefix + 1
  pub trace : IsTraceIn checker.version checker.world.count checker.world.start checker.world.moves
      (flat_map line_text prefix)
  pub lines : prefix ≡ trace_lines checker.version checker.world.count checker.world.start checker.world.moves
  pub table : TableRun (marks_of checker.world.moves) checker.table

-- what happens at the first line, of this many bytes: the checker has taken it, or the line is wrong, or a fault came
abbrev pub Opens : ℕ → Option (List ℕ) → Option (List ℕ) → ℕ → Result (Option Checker) TraceError → Type 0
Opens limit old new count (Ok (Some checker)) = IsAlong limit (limit - count) old new checker 2
Opens limit old new count (Ok None) = Judges limit old new (Invalid 1 cause.Line)
Opens limit old new count (Err fault) = Answers limit old new (Err fault)

-- what happens at the line with this number, of this many bytes: the checker has taken it, or the trace is over, or the
-- line is wrong, or a fault came
abbrev pub Turns : ℕ → ℕ → Option (List ℕ) → Option (List ℕ) → Checker → ℕ → ℕ → Result Judgement TraceError → Type 0
Turns limit left old new after number count (Ok Right) = IsAlong limit (left - count) old new after (number + 1)
Turns limit left old new after number count (Ok Last) = IsDone limit (left - count) old new after (number + 1)
Turns limit left old new after number count (Ok (Wrong why)) = Judges limit old new (Invalid number why)
Turns limit left old new after number count (Err fault) = Answers limit old new (Err fault)

-- a line that is right has at least one byte, and no more than the text may still have
abbrev pub SomeTaken : ℕ → ℕ → Judgement → Type 0
SomeTaken left count Right = (1 ≤ count) × (count ≤ left)
SomeTaken left count Last = (1 ≤ count) × (count ≤ left)
SomeTaken left count (Wrong why) = Unit {0}
