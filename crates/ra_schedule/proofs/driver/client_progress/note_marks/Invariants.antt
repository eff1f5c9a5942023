use Rattle.std.proofs.Common.{take}
use Rattle.ra_schedule.specs.Progress.{OfEach, IsAfterMarks}
use Rattle.ra_schedule.proofs.driver.client_progress.note_marks.Given as goal

-- the marks so far are noted
abbrev pub invariant-loop-mark : goal.invariant-loop-mark
invariant-loop-mark l = OfEach (λ client old new. IsAfterMarks client (take l.mark-index l.marks) old new) l.fn.list l.list
