use Rattle.std.proofs.Common.{ap}
use Rattle.ra_text.specs.Lines.{field}
use Rattle.ra_text.proofs.Drafts.{adds_as, adds_both}
use Rattle.ra_world.proofs.text.state_lines.push_request.Goals as goal

pub returns : goal.returns
returns c =
    adds_both c.push_field.ensures (adds_both (adds_both c.push_number.ensures
    (adds_as c.push_field-2.ensures (ap field c.word.ensures))) c.push_number-2.ensures)
