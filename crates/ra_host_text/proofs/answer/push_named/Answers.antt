use Rattle.std.proofs.Common.{ap}
use Rattle.ra_text.specs.Lines.{field}
use Rattle.ra_text.proofs.Drafts.{adds_as, adds_both}
use Rattle.ra_host_text.proofs.answer.push_named.Goals as goal

pub returns-clause-text : goal.returns-clause-text
returns-clause-text c = adds_both c.push.ensures (adds_as c.push_field.ensures (ap field c.as_str.ensures))
