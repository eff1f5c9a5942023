use Rattle.std.proofs.Common.{arith}
use Rattle.std.proofs.lemmas.Bool.{ltb-true}
use Rattle.ra_trace.proofs.Due.{some_left}
use Rattle.ra_trace.proofs.checker.Checker.has_due.Goals as goal

pub returns-clause-some : goal.returns-clause-some
returns-clause-some c is =
    some_left c.args.self.now.marks.items c.args.self.now.come
    (omega (arith, ltb-true c.args.self.now.come c.len.result is, c.len.ensures))
