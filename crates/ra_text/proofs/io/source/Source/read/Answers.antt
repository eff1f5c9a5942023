use Rattle.std.proofs.Common.{arith}
use Rattle.ra_text.proofs.io.source.Source.read.Goals as goal

pub returns-in-Ok-clause-some : goal.returns-in-Ok-clause-some
returns-in-Ok-clause-some g c = (omega (arith, c.in-Ok.ensures.bound.0), c.in-Ok.ensures.bytes.0)

pub returns-in-Ok-clause-none : goal.returns-in-Ok-clause-none
returns-in-Ok-clause-none g c zero = c.in-Ok.ensures.bytes.1 zero (omega (arith, c.requires.some))
