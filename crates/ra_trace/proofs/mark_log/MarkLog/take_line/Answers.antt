use Rattle.std.proofs.Common.{◌≡◌, Ok, refl}
use Rattle.ra_stamp.specs.declared.entry.Mark.{Mark}
use Rattle.ra_trace.specs.declared.line.Line.{Line}
use Rattle.ra_trace.specs.declared.line.Line.TheVariants as line
use Rattle.ra_trace.specs.declared.mark_log.MarkLog.{MarkLog}
use Rattle.ra_trace.specs.declared.mark_log.MarkJudgement.TheVariants.{Wrong}
use Rattle.ra_trace.specs.declared.mark_log.marks_verdict.MarkCause.TheVariants as cause
use Rattle.ra_trace.specs.MarksAlong.{JudgedLine}
use Rattle.ra_trace.proofs.mark_log.MarkLog.take_line.Goals as goal

no_mark : (old new : MarkLog) (given : Line) → ((mark : Mark) → given ≡ line.Marked mark → ⊥) → JudgedLine old given new (Ok (Wrong cause.Line))
no_mark old new (line.First version nodes start) not = refl
no_mark old new (line.Stepped step) not = refl
no_mark old new (line.Sent message) not = refl
no_mark old new (line.Marked mark) not = absurd (not mark refl)
no_mark old new line.Last not = refl

pub returns-in_default : goal.returns-in_default
returns-in_default c = no_mark c.args.self.now c.args.self.now c.args.line.now c.in_default.not-Marked

pub returns-in-Err : goal.returns-in-Err
returns-in-Err c = rw c.in-Marked.is c.in-Err.ensures

pub returns-in-Ok-Some : goal.returns-in-Ok-Some
returns-in-Ok-Some c = rw c.in-Marked.is (rw c.in-Ok-Some.field-0-is at c.in-Ok-Some.ensures).0

pub returns-in-Ok-None : goal.returns-in-Ok-None
returns-in-Ok-None c = rw c.in-Marked.is (rw c.in-Ok-None.field-0-is at c.in-Ok-None.ensures)
