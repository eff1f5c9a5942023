-- Mark logs of which each wrong line is told: it is left out, and the log goes on without it.
use Rattle.std.specs.Prelude.{◌≡◌, ◌≢◌, ◌⊎◌, ◌==◌, ℕ, ◌+◌, ◌≤◌, Bool, true, false, not, List, [], ◌∷◌, ◌++◌, All, Option, Some, None, Result, IfOk, IfSome, IsErrOf, count_by, filter, length}
use Rattle.std.specs.Io.KnownBytes.{Consumes}
use Rattle.std.specs.List.{list_any}
use Rattle.std.specs.Str.{bytes_eq}
use Rattle.ra_stamp.specs.Mark.{entry_of_mark}
use Rattle.ra_stamp.specs.declared.entry.Mark.{Mark}
use Rattle.ra_world.specs.Quiet.{requests_in}
use Rattle.ra_trace.specs.declared.error.TraceError.{TraceError}
use Rattle.ra_trace.specs.declared.error.TraceError.TheVariants.{Read, Limit, Memory}
use Rattle.ra_trace.specs.declared.mark_log.marks_verdict.MarkCause.{MarkCause}
use Rattle.ra_trace.specs.declared.mark_log.marks_verdict.MarkCause.TheVariants as cause
use Rattle.ra_trace.specs.declared.mark_log.marks_watcher.MarksSoFar.{MarksSoFar}
use Rattle.ra_trace.specs.declared.mark_log.wrong_lines.WrongLine.{WrongLine}
use Rattle.ra_trace.specs.Complete.{AreComplete}
use Rattle.ra_trace.specs.Marks.{BeginsWithMark, IsMarkRun, IsWrongMark, grants_in, marks_text}

-- ---- Which lines are wrong

-- this is a line, of whatever length, before the rest of a text: it ends with its only line feed, or it has none, and
-- nothing follows
abbrev pub IsWholeLine : List ℕ → (rest : List ℕ) → Type 0
IsWholeLine line rest =
    ((before : List ℕ) × All (λ byte. byte ≢ 10) before × (line ≡ before ++ 10 ∷ []))
    ⊎ (All (λ byte. byte ≢ 10) line × (line ≢ []) × (rest ≡ []))

-- the name of the mark with whose line the text begins, if it begins with one
abbrev pub HasName : List ℕ → Option (List ℕ) → Type 0
HasName text None = (mark : Mark) (rest : List ℕ) → BeginsWithMark text mark rest → ⊥
HasName text (Some name) =
    (mark : Mark) × (rest : List ℕ) × BeginsWithMark text mark rest × ((entry_of_mark mark).name ≡ name)

-- This is the first wrong line of a text: the lines before it are those of these marks, and this is what follows it.
-- Its number counts the lines that were left out before it, too.
pub record IsFirstWrong (text : List ℕ) (left_out : ℕ) (wrong : WrongLine) (marks : List Mark)
    (rest : List ℕ) : Type 0 where
  pub line : List ℕ
  pub run : IsMarkRun marks
  pub text_is : text ≡ marks_text marks ++ (line ++ rest)
  pub whole : IsWholeLine line rest
  pub why : IsWrongMark marks (line ++ rest) wrong.cause
  pub name : HasName (line ++ rest) wrong.name
  pub number : wrong.line ≡ length marks + left_out + 1

-- These are the wrong lines of a text, in order, and these the marks of its other lines, a run of the lock table. After
-- the first wrong one come those of the text without it.
abbrev pub AreWrong : List ℕ → (left_out : ℕ) → List WrongLine → (kept : List Mark) → Type 0
AreWrong text left_out [] kept = IsMarkRun kept × (text ≡ marks_text kept)
AreWrong text left_out (wrong ∷ others) kept =
    (marks : List Mark) × (rest : List ℕ) × IsFirstWrong text left_out wrong marks rest
    × AreWrong (marks_text marks ++ rest) (left_out + 1) others kept

-- ---- What is told of them

-- whether two lines are on one name, or both have none
abbrev pub same_name : Option (List ℕ) → Option (List ℕ) → Bool
same_name None None = true
same_name None (Some b) = false
same_name (Some a) None = false
same_name (Some a) (Some b) = bytes_eq a b

-- whether one of these lines is on this name
abbrev pub is_met : Option (List ℕ) → List WrongLine → Bool
is_met name lines = list_any (λ other. same_name name other.name) lines

-- the first line for each name, and the first that has none, in order
abbrev pub first_of_each : List WrongLine → List WrongLine
first_of_each [] = []
first_of_each (wrong ∷ others) = wrong ∷ filter (λ other. not (same_name other.name wrong.name)) (first_of_each others)

-- the place of a cause among all causes, from 0
abbrev pub cause_place : MarkCause → ℕ
cause_place cause.Line = 0
cause_place cause.NodeBusy = 1
cause_place cause.NotAbove = 2
cause_place cause.NotWaiting = 3
cause_place cause.Held = 4
cause_place cause.Earlier = 5
cause_place cause.NotHeld = 6

-- how many of these lines are wrong for the cause at this place
abbrev pub count_at : ℕ → List WrongLine → ℕ
count_at place lines = count_by (λ wrong. cause_place wrong.cause == place) lines

-- ---- What a check says

-- whether a log passes of which these lines are wrong: none may be, and if that is demanded, it has to be complete
abbrev pub PassesWithout : (demanded : Bool) → List WrongLine → (kept : List Mark) → Bool → Type 0
PassesWithout demanded (wrong ∷ others) kept passes = passes ≡ false
PassesWithout false [] kept passes = passes ≡ true
PassesWithout true [] kept passes = AreComplete kept passes

-- what is said of a text: its wrong lines, how many lines it has, how many requests and grants are among the others,
-- and whether it passes
pub record TellsAll (demanded : Bool) (text : List ℕ) (wrong : List WrongLine) (counts : MarksSoFar)
    (passes : Bool) : Type 0 where
  pub kept : List Mark
  pub are_wrong : AreWrong text 0 wrong kept
  pub lines_is : counts.lines ≡ length kept + length wrong
  pub requests_is : counts.requests ≡ requests_in kept
  pub grants_is : counts.grants ≡ grants_in kept
  pub passes_is : PassesWithout demanded wrong kept passes

-- the answer of a check that tells each wrong line of a mark log, which may have this many bytes
pub record ChecksAll (most : ℕ) (demanded : Bool) (old new : Option (List ℕ)) (wrong : List WrongLine)
    (result : Result MarksSoFar TraceError) (passes : Bool) : Type 0 where
  -- it is true of the whole input, which was read to its end
  pub ok : IfOk result (λ counts. IfSome old (λ input.
      TellsAll demanded input wrong counts passes × Consumes old new input))
  -- it is true of what was read
  pub alone : IfOk result (λ counts. (taken : List ℕ) × TellsAll demanded taken wrong counts passes
      × (length taken ≤ most) × Consumes old new taken)
  -- without it, no more was read than the text may have, or one byte more
  pub failed : IsErrOf result Read → (taken : List ℕ) × Consumes old new taken × (length taken ≤ most)
  pub limit : IsErrOf result Limit → (taken : List ℕ) × Consumes old new taken × (length taken ≡ most + 1)
  pub memory : IsErrOf result Memory → (taken : List ℕ) × Consumes old new taken × (length taken ≤ most)
