use Rattle.std.proofs.Common.{ℕ, arith, ◌+◌, ◌-◌, ◌∙◌, List, Option, slice_get, ap, subst, sym}
use Rattle.ra_trace.specs.declared.checker.trace_watcher.TraceSoFar.{TraceSoFar}
use Rattle.ra_trace.specs.declared.checker.verdict.Verdict.TheVariants.{Invalid}
use Rattle.ra_trace.specs.Verdict.{Due, due_lines}
use Rattle.ra_trace.specs.Following.{HasRightLines, IsTraceSoFar, trace_so_far_lines}
use Rattle.ra_trace.specs.FollowingAlong.{IsTold}
use Rattle.ra_trace.proofs.Along.{answers_at_end, right_turns, some_taken, at_first, few_taken, fewer_left, still_short}
use Rattle.ra_trace.proofs.Complete.{taken_at_end}
use Rattle.ra_trace.proofs.Following.{told_nothing, tells_at_fault, tells_at_verdict}
use Rattle.ra_trace.proofs.Telling.{tells_at, none_at_end, none_at_fault}
use Rattle.ra_trace.proofs.TraceFollowing.{lines_along, right_before_wrong, so_far_along, so_far_turned, tells_at_end}
use Rattle.ra_trace.proofs.checker.check_text.follow.follow_after.Goals as goal

pub overflow_sub-left : goal.overflow_sub-left
overflow_sub-left g c = c.requires

pub loop-next-init : goal.loop-next-init
loop-next-init g c = record {
  along = λ old first. first;
  told = λ old first.
      (rw c.so_far.ensures at (c.tell_if_due.ensures old (g.W.TraceWatcher.told c.args.watcher.now)))
      (subst (λ (due : ℕ). IsTold trace_so_far_lines IsTraceSoFar c.args.every old (g.W.TraceWatcher.told c.args.watcher.now) (g.W.TraceWatcher.told c.args.watcher.now) 1 due) (sym c.from-told_next.ensures)
      (told_nothing TraceSoFar trace_so_far_lines IsTraceSoFar c.args.every old (g.W.TraceWatcher.told c.args.watcher.now)))
      (so_far_along 9223372036854775808 (9223372036854775808 - c.args.first) old (g.B.Read.remaining c.args.reader.now) c.args.checker.now 1 first)
      (omega arith);
  short = at_first 9223372036854775808 c.args.first;
}

pub overflow_sub-left-in-loop-next : goal.overflow_sub-left-in-loop-next
overflow_sub-left-in-loop-next g c =
    few_taken _ _ (some_taken c.loop-next.left c.take_next.new.taken c.in-Ok.next c.in-Ok.ensures.some c.in_default.not-Wrong)

pub loop-next-smaller : goal.loop-next-smaller
loop-next-smaller g c =
    fewer_left _ _ (some_taken c.loop-next.left c.take_next.new.taken c.in-Ok.next c.in-Ok.ensures.some c.in_default.not-Wrong)

pub loop-next-preserved : goal.loop-next-preserved
loop-next-preserved g c =
    let limit : ℕ = 9223372036854775808 in
    let left = c.loop-next.left in
    let count = c.take_next.new.taken in
    let new = g.B.Read.remaining c.take_next.new.reader in
    let after = c.take_next.new.checker in
    let number = c.loop-next.number in
    let before = g.W.TraceWatcher.told c.args.watcher.now in
    record {
      along = λ old first.
          right_turns limit left old new after number count c.in-Ok.next (c.in-Ok.ensures.turned limit number old (c.loop-next.invariant.along old first))
          c.in_default.not-Wrong c.in_default-next.not-Last;
      told = λ old first.
          (rw c.so_far-in-loop-next.ensures at (c.tell_if_due-in-loop-next.ensures old before))
          (subst (λ (now : Option (List TraceSoFar)). IsTold trace_so_far_lines IsTraceSoFar c.args.every old before now number c.loop-next.told_next)
          (sym c.show_line.ensures) (c.loop-next.invariant.told old first))
          (so_far_turned limit left old new after number count c.in-Ok.next (c.in-Ok.ensures.turned limit number old (c.loop-next.invariant.along old first))
          c.in_default.not-Wrong)
          (lines_along limit left old _ _ number (c.loop-next.invariant.along old first));
      short = still_short _ _ (some_taken left count c.in-Ok.next c.in-Ok.ensures.some c.in_default.not-Wrong) number limit
          c.loop-next.invariant.short;
    }

pub returns-in-Err-clause-answers : goal.returns-in-Err-clause-answers
returns-in-Err-clause-answers g c old first =
    c.in-Err.ensures.turned 9223372036854775808 c.loop-next.number old (c.loop-next.invariant.along old first)

pub returns-in-Wrong-clause-answers : goal.returns-in-Wrong-clause-answers
returns-in-Wrong-clause-answers g c old first =
    rw c.in-Wrong.is at (c.in-Ok.ensures.turned 9223372036854775808 c.loop-next.number old (c.loop-next.invariant.along old first))

pub returns-in-Last-clause-answers : goal.returns-in-Last-clause-answers
returns-in-Last-clause-answers g c old first =
    let after = c.take_next.new.checker in
    let remaining = g.B.Read.remaining c.take_next.new.reader in
    let done = rw c.in-Last.is at (c.in-Ok.ensures.turned 9223372036854775808 c.loop-next.number old (c.loop-next.invariant.along old first)) in
    answers_at_end 9223372036854775808 (c.loop-next.left - c.take_next.new.taken) old remaining (g.B.Read.remaining c.ending.new.reader) after (c.loop-next.number + 1)
    c.ending.result done c.ending.ensures

pub returns-in-Err-clause-due : goal.returns-in-Err-clause-due
returns-in-Err-clause-due g c old first = none_at_fault old _ _

pub returns-in-Wrong-clause-due : goal.returns-in-Wrong-clause-due
returns-in-Wrong-clause-due g c old first =
    tells_at 9223372036854775808 c.loop-next.left old (g.B.Read.remaining c.loop-next.reader) c.loop-next.checker c.loop-next.number c.in-Wrong.cause c.next_due.result
    (c.loop-next.invariant.along old first)
    (c.next_due.ensures ∙ ap (λ (due : Due). slice_get (due_lines due) 0) (c.in-Ok.ensures.due c.in-Wrong.cause c.in-Wrong.is))

pub returns-in-Last-clause-due : goal.returns-in-Last-clause-due
returns-in-Last-clause-due g c old first =
    none_at_end (c.loop-next.left - c.take_next.new.taken) old (g.B.Read.remaining c.take_next.new.reader) (g.B.Read.remaining c.ending.new.reader)
    c.take_next.new.checker (c.loop-next.number + 1) c.ending.result _ c.ending.ensures

pub returns-in-Err-clause-tells : goal.returns-in-Err-clause-tells
returns-in-Err-clause-tells g c old first =
    tells_at_fault TraceSoFar trace_so_far_lines IsTraceSoFar HasRightLines c.args.every old (g.W.TraceWatcher.told c.args.watcher.now)
    (g.W.TraceWatcher.told c.loop-next.watcher) c.loop-next.number c.loop-next.told_next (c.loop-next.invariant.told old first) c.in-Err.fault

pub returns-in-Wrong-clause-tells : goal.returns-in-Wrong-clause-tells
returns-in-Wrong-clause-tells g c old first =
    let number = c.loop-next.number in
    let before = g.W.TraceWatcher.told c.args.watcher.now in
    let told = subst (λ (now : Option (List TraceSoFar)). IsTold trace_so_far_lines IsTraceSoFar c.args.every old before now number c.loop-next.told_next)
    (sym c.refused.ensures) (c.loop-next.invariant.told old first) in
    tells_at_verdict TraceSoFar trace_so_far_lines IsTraceSoFar HasRightLines c.args.every old before (g.W.TraceWatcher.told c.refused.new.self)
    number c.loop-next.told_next told (Invalid number c.in-Wrong.cause)
    (right_before_wrong number c.in-Wrong.cause (lines_along 9223372036854775808 c.loop-next.left old _ _ number (c.loop-next.invariant.along old first)) old)

pub returns-in-Last-clause-tells : goal.returns-in-Last-clause-tells
returns-in-Last-clause-tells g c old first =
    let limit : ℕ = 9223372036854775808 in
    let left = c.loop-next.left in
    let count = c.take_next.new.taken in
    let now = g.B.Read.remaining c.take_next.new.reader in
    let after = c.take_next.new.checker in
    let number = c.loop-next.number in
    let before = g.W.TraceWatcher.told c.args.watcher.now in
    let turned = c.in-Ok.ensures.turned limit number old (c.loop-next.invariant.along old first) in
    let told = (rw c.so_far-in-loop-next.ensures at (c.tell_if_due-in-loop-next.ensures old before))
    (subst (λ (told : Option (List TraceSoFar)). IsTold trace_so_far_lines IsTraceSoFar c.args.every old before told number c.loop-next.told_next)
    (sym c.show_line.ensures) (c.loop-next.invariant.told old first))
    (so_far_turned limit left old now after number count c.in-Ok.next turned c.in_default.not-Wrong)
    (lines_along limit left old _ _ number (c.loop-next.invariant.along old first)) in
    tells_at_end c.args.every limit (left - count) old now (g.B.Read.remaining c.ending.new.reader) after (number + 1) _ before _
    (rw c.in-Last.is at turned) told c.ending.result c.ending.ensures

pub returns-in-Last-clause-end : goal.returns-in-Last-clause-end
returns-in-Last-clause-end g c old first =
    let done = rw c.in-Last.is at (c.in-Ok.ensures.turned 9223372036854775808 c.loop-next.number old (c.loop-next.invariant.along old first)) in
    taken_at_end 9223372036854775808 (c.loop-next.left - c.take_next.new.taken) old (g.B.Read.remaining c.take_next.new.reader) (g.B.Read.remaining c.ending.new.reader)
    c.take_next.new.checker (c.loop-next.number + 1) c.ending.result done c.ending.ensures
