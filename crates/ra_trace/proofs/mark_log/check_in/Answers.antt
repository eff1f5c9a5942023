use Rattle.std.proofs.Common.{◌+◌, ◌-◌, Ok, Err, refl}
use Rattle.ra_trace.specs.declared.mark_log.marks_verdict.MarksVerdict.TheVariants.{Valid, Invalid}
use Rattle.ra_trace.proofs.Along.{few_taken, fewer_left}
use Rattle.ra_trace.proofs.MarkInputs.{checked}
use Rattle.ra_trace.proofs.MarksAlong.{begins_log, few, right_turns, some_mark_taken}
use Rattle.ra_trace.proofs.MarkVerdicts.{one_verdict}
use Rattle.ra_trace.proofs.TraceLaws.{mark_logs_rest_on_tables}
use Rattle.ra_trace.proofs.mark_log.check_in.Goals as goal

pub loop-next-init : goal.loop-next-init
loop-next-init g c =
    let old = g.R.Read.remaining c.args.reader.now in
    let along = begins_log mark_logs_rest_on_tables c.args.limit old c.args.log.now c.requires.empty in
    record { along = along; few = few c.args.limit c.args.limit old old _ 1 along }

pub overflow_sub-left : goal.overflow_sub-left
overflow_sub-left g c =
    few_taken _ _ (some_mark_taken c.loop-next.left c.take_next.new.taken c.in-Ok.next c.in-Ok.ensures.some c.in_default.not-Wrong c.in_default-next.not-End)

pub loop-next-smaller : goal.loop-next-smaller
loop-next-smaller g c =
    fewer_left _ _ (some_mark_taken c.loop-next.left c.take_next.new.taken c.in-Ok.next c.in-Ok.ensures.some c.in_default.not-Wrong c.in_default-next.not-End)

pub loop-next-preserved : goal.loop-next-preserved
loop-next-preserved g c =
    let limit = c.args.limit in
    let old = g.R.Read.remaining c.args.reader.now in
    let new = g.R.Read.remaining c.take_next.new.reader in
    let log = c.take_next.new.log in
    let number = c.loop-next.line + 1 in
    let count = c.take_next.new.taken in
    let along =
    right_turns limit c.loop-next.left old new log c.loop-next.line count c.in-Ok.next
    (c.in-Ok.ensures.turned limit c.loop-next.line old c.loop-next.invariant.along) c.in_default.not-Wrong c.in_default-next.not-End in
    record { along = along; few = few limit (c.loop-next.left - count) old new log number along }

pub returns-in-Err-clause-checks : goal.returns-in-Err-clause-checks
returns-in-Err-clause-checks g c =
    let old = g.R.Read.remaining c.args.reader.now in
    checked c.args.limit old (g.R.Read.remaining c.take_next.new.reader) (one_verdict mark_logs_rest_on_tables) (Err c.in-Err.fault)
    (c.in-Err.ensures.turned c.args.limit c.loop-next.line old c.loop-next.invariant.along)

pub returns-in-Wrong-clause-checks : goal.returns-in-Wrong-clause-checks
returns-in-Wrong-clause-checks g c =
    let old = g.R.Read.remaining c.args.reader.now in
    checked c.args.limit old (g.R.Read.remaining c.take_next.new.reader) (one_verdict mark_logs_rest_on_tables)
    (Ok (Invalid c.loop-next.line c.in-Wrong.cause))
    (rw c.in-Wrong.is at (c.in-Ok.ensures.turned c.args.limit c.loop-next.line old c.loop-next.invariant.along))

pub returns-in-End-clause-checks : goal.returns-in-End-clause-checks
returns-in-End-clause-checks g c =
    let old = g.R.Read.remaining c.args.reader.now in
    let log = c.take_next.new.log in
    checked c.args.limit old (g.R.Read.remaining c.take_next.new.reader) (one_verdict mark_logs_rest_on_tables)
    (Ok (Valid log.requests log.grants))
    (rw c.in-End.is at (c.in-Ok.ensures.turned c.args.limit c.loop-next.line old c.loop-next.invariant.along)).0

pub returns-in-End-clause-end : goal.returns-in-End-clause-end
returns-in-End-clause-end g c =
    ((rw c.in-End.is at (c.in-Ok.ensures.turned c.args.limit c.loop-next.line (g.R.Read.remaining c.args.reader.now) c.loop-next.invariant.along)).2, refl, refl)
