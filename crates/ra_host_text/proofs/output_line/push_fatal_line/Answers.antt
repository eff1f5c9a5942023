use Rattle.std.proofs.Common.{ap}
use Rattle.ra_text.specs.Lines.{field}
use Rattle.ra_text.proofs.Drafts.{adds_as, adds_both}
use Rattle.ra_host_text.proofs.output_line.push_fatal_line.Goals as goal

pub returns : goal.returns
returns c = adds_both (adds_both c.push.ensures (adds_as c.push_field.ensures (ap field c.word.ensures))) c.end_line.ensures
