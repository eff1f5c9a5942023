use Rattle.std.proofs.Common.{ap}
use Rattle.ra_text.specs.Lines.{field}
use Rattle.ra_text.proofs.Drafts.{adds_as}
use Rattle.ra_text.proofs.draft.Draft.push_number.Goals as goal

pub returns : goal.returns
returns g c = adds_as c.push_field.ensures (ap field c.format.ensures.text)
