use Rattle.std.proofs.Common.{sym, arith}
use Rattle.ra_audit.proofs.StillLost.{found_lost, none_further, none_lost, is_there}
use Rattle.ra_audit.proofs.auditor.ending.first_lost.Goals as goal

pub unreachable-requires : goal.unreachable-requires
unreachable-requires c =
    is_there c.args.book.now.sent c.loop-place.place (omega (arith, c.loop-place-test.true, c.sent_len-place-end.ensures.value)) (sym c.in_default.ensures.value)

pub loop-place-preserved : goal.loop-place-preserved
loop-place-preserved c =
    none_further c.args.book.now.sent c.loop-place.place c.in-Some.sent (sym c.in-Some.ensures.value) c.if-sent.false c.loop-place.invariant

pub returns-then-sent : goal.returns-then-sent
returns-then-sent c = found_lost c.args.book.now.sent c.loop-place.place c.in-Some.sent (sym c.in-Some.ensures.value) c.if-sent.true c.loop-place.invariant

pub returns : goal.returns
returns c = none_lost c.args.book.now.sent c.loop-place.place (omega (arith, c.loop-place-test.false, c.sent_len-place-end.ensures.value)) c.loop-place.invariant
