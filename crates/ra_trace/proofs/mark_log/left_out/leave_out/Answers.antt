use Rattle.std.proofs.Common.{ℕ, ◌+◌, ◌-◌, ◌∙◌, refl}
use Rattle.ra_trace.proofs.LeavingOut.{cut_line, fault_at, few_all, line_more, memory_at, no_line_left, nothing_left_out, stopped_at}
use Rattle.ra_trace.proofs.TraceLaws.{mark_logs_rest_on_tables}
use Rattle.ra_trace.proofs.mark_log.left_out.leave_out.Goals as goal

pub loop-has_feed-init : goal.loop-has_feed-init
loop-has_feed-init g c =
    let limit : ℕ = 9223372036854775808 in
    let old = g.B.Read.remaining c.args.reader.now in
    let along = nothing_left_out mark_logs_rest_on_tables limit old c.args.log.now c.args.wrong.now c.requires.empty c.requires.none in
    record { along = along; few = few_all limit limit old old _ _ 0 along; told = refl }

pub returns-in-Err-clause-leaves : goal.returns-in-Err-clause-leaves
returns-in-Err-clause-leaves g c =
    let l = c.loop-has_feed in
    fault_at 9223372036854775808 l.left (g.B.Read.remaining c.args.reader.now) (g.B.Read.remaining l.reader) (g.B.Read.remaining c.next_whole_line.new.reader)
    l.log l.log l.wrong l.wrong l.lines c.next_whole_line.new.taken c.next_whole_line.new.room.line c.in-Err.fault l.invariant.along c.in-Err.ensures

pub returns-then-taken-eq0-clause-leaves : goal.returns-then-taken-eq0-clause-leaves
returns-then-taken-eq0-clause-leaves g c =
    let l = c.loop-has_feed in
    no_line_left 9223372036854775808 l.left (g.B.Read.remaining c.args.reader.now) (g.B.Read.remaining l.reader) (g.B.Read.remaining c.next_whole_line.new.reader)
    l.log l.wrong l.lines c.next_whole_line.new.taken c.next_whole_line.new.room.line c.in-Ok.has_feed l.invariant.along c.in-Ok.ensures c.if-taken-eq0.true

pub returns-in-Err-take_or_leave_out-clause-leaves : goal.returns-in-Err-take_or_leave_out-clause-leaves
returns-in-Err-take_or_leave_out-clause-leaves g c =
    let l = c.loop-has_feed in
    let old = g.B.Read.remaining c.args.reader.now in
    let new = g.B.Read.remaining c.next_whole_line.new.reader in
    memory_at 9223372036854775808 old new c.take_or_leave_out.new.log c.take_or_leave_out.new.wrong c.in-Err-take_or_leave_out.fault
    c.in-Err-take_or_leave_out.ensures.memory
    (stopped_at mark_logs_rest_on_tables 9223372036854775808 l.left old (g.B.Read.remaining l.reader) new l.log c.take_or_leave_out.new.log l.wrong
    c.take_or_leave_out.new.wrong l.lines c.next_whole_line.new.taken c.next_whole_line.new.room.line l.invariant.along c.if-taken-eq0.false c.in-Ok.has_feed c.in-Ok.ensures)

pub returns-then-not-has_feed-clause-leaves : goal.returns-then-not-has_feed-clause-leaves
returns-then-not-has_feed-clause-leaves g c =
    let l = c.loop-has_feed in
    cut_line mark_logs_rest_on_tables 9223372036854775808 l.left (g.B.Read.remaining c.args.reader.now) (g.B.Read.remaining l.reader)
    (g.B.Read.remaining c.next_whole_line.new.reader) l.log c.take_or_leave_out.new.log l.wrong c.take_or_leave_out.new.wrong l.lines
    c.next_whole_line.new.taken c.next_whole_line.new.room.line l.invariant.along c.if-taken-eq0.false (rw c.if-not-has_feed.true at c.in-Ok.ensures)
    c.in-Ok-take_or_leave_out.ensures.adds

pub loop-has_feed-preserved : goal.loop-has_feed-preserved
loop-has_feed-preserved g c =
    let l = c.loop-has_feed in
    let limit : ℕ = 9223372036854775808 in
    let old = g.B.Read.remaining c.args.reader.now in
    let new = g.B.Read.remaining c.next_whole_line.new.reader in
    let log = c.take_or_leave_out.new.log in
    let wrong = c.take_or_leave_out.new.wrong in
    let count = c.next_whole_line.new.taken in
    let along =
    line_more mark_logs_rest_on_tables limit l.left old (g.B.Read.remaining l.reader) new l.log log l.wrong wrong l.lines count
    c.next_whole_line.new.room.line l.invariant.along c.if-taken-eq0.false (rw c.if-not-has_feed.false at c.in-Ok.ensures) c.in-Ok-take_or_leave_out.ensures.adds in
    record {
      along = along;
      few = few_all limit (l.left - count) old new log wrong (l.lines + 1) along;
      told = c.take_or_leave_out.ensures.told ∙ l.invariant.told;
    }
