use Rattle.std.proofs.Common.{ℕ, ◌+◌, sym, subst, ◌∙◌}
use Rattle.ra_trace.specs.declared.checker.trace_watcher.TraceSoFar.{TraceSoFar}
use Rattle.ra_trace.specs.Following.{IsTraceSoFar, trace_so_far_lines}
use Rattle.ra_trace.specs.FollowingAlong.{IsTold}
use Rattle.ra_trace.proofs.Following.{told_more, told_no_more}
use Rattle.ra_trace.proofs.checker.check_text.follow.tell_if_due.Goals as goal

pub returns-then-from-due : goal.returns-then-from-due
returns-then-from-due g c old before so is some =
    subst (λ (n : ℕ). IsTold trace_so_far_lines IsTraceSoFar c.args.every old before (g.W.TraceWatcher.told c.tell.new.self) (c.args.so_far.lines + 1) (c.args.due.now + n))
    (sym c.from-then-from-due.ensures)
    (told_more TraceSoFar trace_so_far_lines IsTraceSoFar c.args.every old before (g.W.TraceWatcher.told c.args.watcher.now) (g.W.TraceWatcher.told c.tell.new.self)
    c.args.so_far c.args.due.now so c.tell.ensures is (sym c.from.ensures ∙ c.if-from-due.true) some)

pub returns-else-from-due : goal.returns-else-from-due
returns-else-from-due g c old before so is some =
    told_no_more TraceSoFar trace_so_far_lines IsTraceSoFar c.args.every old before
    (g.W.TraceWatcher.told c.args.watcher.now) c.args.so_far.lines c.args.due.now so (λ same. c.if-from-due.false (c.from.ensures ∙ same))
