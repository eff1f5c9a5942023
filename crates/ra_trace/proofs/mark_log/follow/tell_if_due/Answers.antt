use Rattle.std.proofs.Common.{ℕ, ◌+◌, sym, subst, ◌∙◌}
use Rattle.ra_trace.specs.declared.mark_log.marks_watcher.MarksSoFar.{MarksSoFar}
use Rattle.ra_trace.specs.Following.{IsMarksSoFar, marks_lines}
use Rattle.ra_trace.specs.FollowingAlong.{IsTold}
use Rattle.ra_trace.proofs.Following.{told_more, told_no_more}
use Rattle.ra_trace.proofs.mark_log.follow.tell_if_due.Goals as goal

pub returns-then-from-due : goal.returns-then-from-due
returns-then-from-due g c old before so is some =
    subst (λ (n : ℕ). IsTold marks_lines IsMarksSoFar c.args.every old before (g.W.MarksWatcher.told c.tell.new.self) (c.args.so_far.lines + 1) (c.args.due.now + n))
    (sym c.from-then-from-due.ensures)
    (told_more MarksSoFar marks_lines IsMarksSoFar c.args.every old before (g.W.MarksWatcher.told c.args.watcher.now) (g.W.MarksWatcher.told c.tell.new.self)
    c.args.so_far c.args.due.now so c.tell.ensures is (sym c.from.ensures ∙ c.if-from-due.true) some)

pub returns-else-from-due : goal.returns-else-from-due
returns-else-from-due g c old before so is some =
    told_no_more MarksSoFar marks_lines IsMarksSoFar c.args.every old before
    (g.W.MarksWatcher.told c.args.watcher.now) c.args.so_far.lines c.args.due.now so (λ same. c.if-from-due.false (c.from.ensures ∙ same))
