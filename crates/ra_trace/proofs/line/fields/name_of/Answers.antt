use Rattle.ra_trace.proofs.Names.{name_made}
use Rattle.ra_trace.proofs.line.fields.name_of.Goals as goal

pub returns : goal.returns
returns c = name_made c.args.field.now c.of.result c.of.ensures.some c.of.ensures.value
