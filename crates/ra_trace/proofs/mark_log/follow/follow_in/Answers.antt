use Rattle.std.proofs.Common.{ℕ, ◌+◌, ◌-◌, List, Option, Ok, Err, refl, subst, sym}
use Rattle.ra_trace.specs.declared.mark_log.marks_verdict.MarksVerdict.TheVariants.{Valid, Invalid}
use Rattle.ra_trace.specs.declared.mark_log.marks_watcher.MarksSoFar.{MarksSoFar}
use Rattle.ra_trace.specs.Following.{HasRightMarks, IsMarksSoFar, marks_lines}
use Rattle.ra_trace.specs.FollowingAlong.{IsTold}
use Rattle.ra_trace.proofs.Along.{few_taken, fewer_left}
use Rattle.ra_trace.proofs.Following.{told_nothing, tells_at_fault, tells_at_verdict}
use Rattle.ra_trace.proofs.MarkInputs.{checked}
use Rattle.ra_trace.proofs.MarksAlong.{begins_log, few, right_turns, some_mark_taken, some_number}
use Rattle.ra_trace.proofs.MarksFollowing.{so_far_is, right_before_wrong, right_before_end}
use Rattle.ra_trace.proofs.MarkVerdicts.{one_verdict}
use Rattle.ra_trace.proofs.TraceLaws.{mark_logs_rest_on_tables}
use Rattle.ra_trace.proofs.mark_log.follow.follow_in.Goals as goal

pub loop-next-init : goal.loop-next-init
loop-next-init g c =
    let old = g.B.Read.remaining c.args.reader.now in
    let told = g.W.MarksWatcher.told c.args.watcher.now in
    let along = begins_log mark_logs_rest_on_tables 9223372036854775808 old c.args.log.now c.requires in
    record {
      along = along;
      few = few 9223372036854775808 9223372036854775808 old old _ 1 along;
      told = subst (λ (due : ℕ). IsTold marks_lines IsMarksSoFar c.args.every old told told 1 due) (sym c.from-due.ensures)
          (told_nothing MarksSoFar marks_lines IsMarksSoFar c.args.every old told);
    }

pub overflow_sub-left : goal.overflow_sub-left
overflow_sub-left g c =
    few_taken _ _ (some_mark_taken c.loop-next.left c.take_next.new.taken c.in-Ok.next c.in-Ok.ensures.some c.in_default.not-Wrong c.in_default-next.not-End)

pub loop-next-smaller : goal.loop-next-smaller
loop-next-smaller g c =
    fewer_left _ _ (some_mark_taken c.loop-next.left c.take_next.new.taken c.in-Ok.next c.in-Ok.ensures.some c.in_default.not-Wrong c.in_default-next.not-End)

pub loop-next-preserved : goal.loop-next-preserved
loop-next-preserved g c =
    let limit : ℕ = 9223372036854775808 in
    let old = g.B.Read.remaining c.args.reader.now in
    let new = g.B.Read.remaining c.take_next.new.reader in
    let log = c.take_next.new.log in
    let line = c.loop-next.line in
    let count = c.take_next.new.taken in
    let so_far = c.loop-next.invariant in
    let before = g.W.MarksWatcher.told c.args.watcher.now in
    let along =
    right_turns limit c.loop-next.left old new log line count c.in-Ok.next
    (c.in-Ok.ensures.turned limit line old so_far.along) c.in_default.not-Wrong c.in_default-next.not-End in
    record {
      along = along;
      few = few limit (c.loop-next.left - count) old new log (line + 1) along;
      told = (rw c.so_far.ensures at (c.tell_if_due.ensures old before)) (subst (λ (now : Option (List MarksSoFar)). IsTold marks_lines IsMarksSoFar c.args.every old before now line c.loop-next.due) (sym c.show_mark.ensures) so_far.told)
          (so_far_is limit (c.loop-next.left - count) old new log line along)
          (some_number limit c.loop-next.left old _ _ line so_far.along);
    }

pub returns-in-Err-clause-checks : goal.returns-in-Err-clause-checks
returns-in-Err-clause-checks g c =
    let old = g.B.Read.remaining c.args.reader.now in
    checked 9223372036854775808 old (g.B.Read.remaining c.take_next.new.reader) (one_verdict mark_logs_rest_on_tables) (Err c.in-Err.fault)
    (c.in-Err.ensures.turned 9223372036854775808 c.loop-next.line old c.loop-next.invariant.along)

pub returns-in-Err-clause-tells : goal.returns-in-Err-clause-tells
returns-in-Err-clause-tells g c =
    tells_at_fault MarksSoFar marks_lines IsMarksSoFar HasRightMarks c.args.every (g.B.Read.remaining c.args.reader.now) (g.W.MarksWatcher.told c.args.watcher.now) (g.W.MarksWatcher.told c.loop-next.watcher)
    c.loop-next.line c.loop-next.due c.loop-next.invariant.told c.in-Err.fault

pub returns-in-Wrong-clause-checks : goal.returns-in-Wrong-clause-checks
returns-in-Wrong-clause-checks g c =
    let old = g.B.Read.remaining c.args.reader.now in
    checked 9223372036854775808 old (g.B.Read.remaining c.take_next.new.reader) (one_verdict mark_logs_rest_on_tables)
    (Ok (Invalid c.loop-next.line c.in-Wrong.cause))
    (rw c.in-Wrong.is at (c.in-Ok.ensures.turned 9223372036854775808 c.loop-next.line old c.loop-next.invariant.along))

pub returns-in-Wrong-clause-tells : goal.returns-in-Wrong-clause-tells
returns-in-Wrong-clause-tells g c =
    let old = g.B.Read.remaining c.args.reader.now in
    let line = c.loop-next.line in
    let before = g.W.MarksWatcher.told c.args.watcher.now in
    let told = subst (λ (now : Option (List MarksSoFar)). IsTold marks_lines IsMarksSoFar c.args.every old before now line c.loop-next.due)
    (sym c.refused.ensures) c.loop-next.invariant.told in
    tells_at_verdict MarksSoFar marks_lines IsMarksSoFar HasRightMarks c.args.every old before (g.W.MarksWatcher.told c.refused.new.self)
    line c.loop-next.due told (Invalid line c.in-Wrong.cause)
    (right_before_wrong line c.in-Wrong.cause (some_number 9223372036854775808 c.loop-next.left old _ _ line c.loop-next.invariant.along) old)

pub returns-in-End-clause-checks : goal.returns-in-End-clause-checks
returns-in-End-clause-checks g c =
    let old = g.B.Read.remaining c.args.reader.now in
    let log = c.take_next.new.log in
    checked 9223372036854775808 old (g.B.Read.remaining c.take_next.new.reader) (one_verdict mark_logs_rest_on_tables)
    (Ok (Valid log.requests log.grants))
    (rw c.in-End.is at (c.in-Ok.ensures.turned 9223372036854775808 c.loop-next.line old c.loop-next.invariant.along)).0

pub returns-in-End-clause-tells : goal.returns-in-End-clause-tells
returns-in-End-clause-tells g c =
    let old = g.B.Read.remaining c.args.reader.now in
    let log = c.take_next.new.log in
    let line = c.loop-next.line in
    let ended = rw c.in-End.is at (c.in-Ok.ensures.turned 9223372036854775808 line old c.loop-next.invariant.along) in
    tells_at_verdict MarksSoFar marks_lines IsMarksSoFar HasRightMarks c.args.every old (g.W.MarksWatcher.told c.args.watcher.now)
    (g.W.MarksWatcher.told c.loop-next.watcher) line c.loop-next.due c.loop-next.invariant.told (Valid log.requests log.grants)
    (right_before_end line log.requests log.grants old ended.1)

pub returns-in-End-clause-end : goal.returns-in-End-clause-end
returns-in-End-clause-end g c =
    let old = g.B.Read.remaining c.args.reader.now in
    ((rw c.in-End.is at (c.in-Ok.ensures.turned 9223372036854775808 c.loop-next.line old c.loop-next.invariant.along)).2, refl, refl)
