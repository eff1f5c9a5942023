use Rattle.std.proofs.Common.{◌+◌, ◌-◌, slice_get, ap, ◌∙◌}
use Rattle.ra_trace.specs.Verdict.{Due, due_lines}
use Rattle.ra_trace.proofs.Along.{answers_at_end, right_turns, some_taken, at_first, few_taken, fewer_left, still_short}
use Rattle.ra_trace.proofs.Complete.{taken_at_end}
use Rattle.ra_trace.proofs.Telling.{tells_at, none_at_end, none_at_fault}
use Rattle.ra_trace.proofs.checker.check_text.verdict_after.Goals as goal

pub overflow_sub-left : goal.overflow_sub-left
overflow_sub-left g c = c.requires.within

pub loop-next-init : goal.loop-next-init
loop-next-init g c = record { along = λ old first. first; short = at_first c.args.limit c.args.first }

pub overflow_sub-left-in-loop-next : goal.overflow_sub-left-in-loop-next
overflow_sub-left-in-loop-next g c =
    few_taken _ _ (some_taken c.loop-next.left c.take_next.new.taken c.in-Ok.next c.in-Ok.ensures.some c.in_default.not-Wrong)

pub loop-next-smaller : goal.loop-next-smaller
loop-next-smaller g c =
    fewer_left _ _ (some_taken c.loop-next.left c.take_next.new.taken c.in-Ok.next c.in-Ok.ensures.some c.in_default.not-Wrong)

pub loop-next-preserved : goal.loop-next-preserved
loop-next-preserved g c =
    let limit = c.args.limit in
    let left = c.loop-next.left in
    let count = c.take_next.new.taken in
    let new = g.R.Read.remaining c.take_next.new.reader in
    let after = c.take_next.new.checker in
    let number = c.loop-next.number in
    record {
      along = λ old first.
          right_turns limit left old new after number count c.in-Ok.next (c.in-Ok.ensures.turned limit number old (c.loop-next.invariant.along old first))
          c.in_default.not-Wrong c.in_default-next.not-Last;
      short = still_short _ _ (some_taken left count c.in-Ok.next c.in-Ok.ensures.some c.in_default.not-Wrong) number limit
          c.loop-next.invariant.short;
    }

pub returns-in-Err-clause-answers : goal.returns-in-Err-clause-answers
returns-in-Err-clause-answers g c old first =
    c.in-Err.ensures.turned c.args.limit c.loop-next.number old (c.loop-next.invariant.along old first)

pub returns-in-Wrong-clause-answers : goal.returns-in-Wrong-clause-answers
returns-in-Wrong-clause-answers g c old first =
    rw c.in-Wrong.is at (c.in-Ok.ensures.turned c.args.limit c.loop-next.number old (c.loop-next.invariant.along old first))

pub returns-in-Last-clause-answers : goal.returns-in-Last-clause-answers
returns-in-Last-clause-answers g c old first =
    let after = c.take_next.new.checker in
    let remaining = g.R.Read.remaining c.take_next.new.reader in
    let done = rw c.in-Last.is at (c.in-Ok.ensures.turned c.args.limit c.loop-next.number old (c.loop-next.invariant.along old first)) in
    answers_at_end c.args.limit (c.loop-next.left - c.take_next.new.taken) old remaining (g.R.Read.remaining c.ending.new.reader) after (c.loop-next.number + 1)
    c.ending.result done c.ending.ensures

pub returns-in-Err-clause-due : goal.returns-in-Err-clause-due
returns-in-Err-clause-due g c old first =
    none_at_fault old _ _

pub returns-in-Wrong-clause-due : goal.returns-in-Wrong-clause-due
returns-in-Wrong-clause-due g c old first =
    tells_at c.args.limit c.loop-next.left old (g.R.Read.remaining c.loop-next.reader) c.loop-next.checker c.loop-next.number c.in-Wrong.cause c.next_due.result
    (c.loop-next.invariant.along old first)
    (c.next_due.ensures ∙ ap (λ (due : Due). slice_get (due_lines due) 0) (c.in-Ok.ensures.due c.in-Wrong.cause c.in-Wrong.is))

pub returns-in-Last-clause-due : goal.returns-in-Last-clause-due
returns-in-Last-clause-due g c old first =
    none_at_end (c.loop-next.left - c.take_next.new.taken) old (g.R.Read.remaining c.take_next.new.reader) (g.R.Read.remaining c.ending.new.reader)
    c.take_next.new.checker (c.loop-next.number + 1) c.ending.result _ c.ending.ensures

pub returns-in-Last-clause-end : goal.returns-in-Last-clause-end
returns-in-Last-clause-end g c old first =
    let done = rw c.in-Last.is at (c.in-Ok.ensures.turned c.args.limit c.loop-next.number old (c.loop-next.invariant.along old first)) in
    taken_at_end c.args.limit (c.loop-next.left - c.take_next.new.taken) old (g.R.Read.remaining c.take_next.new.reader) (g.R.Read.remaining c.ending.new.reader)
    c.take_next.new.checker (c.loop-next.number + 1) c.ending.result done c.ending.ensures
