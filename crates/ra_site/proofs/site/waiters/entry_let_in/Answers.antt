use Rattle.std.proofs.Common.{arith}
use Rattle.ra_site.proofs.LetIn.{passed_over, found, none_found}
use Rattle.ra_site.proofs.site.waiters.entry_let_in.Goals as goal

pub returns-in-Entered : goal.returns-in-Entered
returns-in-Entered c = found c.args.marks.now c.loop-mark.mark-index c.mark-item.result _ c.loop-mark-test.true c.mark-item.is c.in-Entered.is c.loop-mark.invariant

pub loop-mark-preserved : goal.loop-mark-preserved
loop-mark-preserved c = passed_over c.args.marks.now c.loop-mark.mark-index c.mark-item.result c.loop-mark-test.true c.mark-item.is c.in_default.not-Entered c.loop-mark.invariant

pub returns : goal.returns
returns c = none_found c.args.marks.now c.loop-mark.mark-index (omega (arith, c.loop-mark-test.false)) c.loop-mark.invariant
