use Rattle.ra_trace.proofs.LeavingOut.{checks_all, refused_at_once, refuses_all}
use Rattle.ra_trace.proofs.mark_log.left_out.check_all_marks.Goals as goal

pub returns-in_default-clause-checks : goal.returns-in_default-clause-checks
returns-in_default-clause-checks g c =
    refused_at_once 9223372036854775808 c.args.demanded c.args.passes.now (g.B.Read.remaining c.args.reader.now) c.args.wrong.now

pub returns-in-Err-clause-checks : goal.returns-in-Err-clause-checks
returns-in-Err-clause-checks g c =
    refuses_all 9223372036854775808 c.args.demanded c.args.passes.now (g.B.Read.remaining c.args.reader.now) (g.B.Read.remaining c.leave_out.new.reader)
    c.leave_out.new.log c.leave_out.new.wrong c.in-Err.fault c.in-Err.ensures.leaves

pub returns-clause-checks : goal.returns-clause-checks
returns-clause-checks g c =
    rw c.so_far.ensures (checks_all 9223372036854775808 c.args.demanded c.passes_without.result (g.B.Read.remaining c.args.reader.now)
    (g.B.Read.remaining c.leave_out.new.reader) c.leave_out.new.log c.leave_out.new.wrong c.in-Ok-leave_out.lines c.in-Ok-leave_out.ensures.leaves c.passes_without.ensures)
