use Rattle.std.proofs.Common.{◌≡◌, Some, take, drop, suc, arith}
use Rattle.ra_trace.proofs.Cuts.{cut-at, cut-none, to_end}
use Rattle.ra_trace.specs.Forms.{cut}
use Rattle.ra_trace.proofs.line.fields.split_once.Goals as goal

pub returns-then-other-byte : goal.returns-then-other-byte
returns-then-other-byte c =
    let is : cut c.args.byte c.args.text.now ≡ Some (take c.loop-end.end c.args.text.now, drop (suc c.loop-end.end) c.args.text.now) = cut-at c.args.byte c.args.text.now c.loop-end.end (omega arith) c.if-other-byte.true c.loop-end.invariant in
    rw (is, to_end c.args.text.now c.loop-end.end)

pub returns : goal.returns
returns c = cut-none c.args.byte c.args.text.now (λ k h. c.loop-end.invariant k (omega arith))
