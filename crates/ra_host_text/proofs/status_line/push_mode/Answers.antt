use Rattle.std.proofs.Common.{ap}
use Rattle.ra_text.specs.Lines.{field}
use Rattle.ra_text.proofs.Drafts.{adds_as, adds_both}
use Rattle.ra_host_text.proofs.status_line.push_mode.Goals as goal

pub returns-clause-text : goal.returns-clause-text
returns-clause-text c =
    let name = adds_as c.push_field.ensures (ap field c.as_str.ensures) in
    adds_both (adds_both c.push.ensures name) (adds_as c.push_field-2.ensures (ap field c.word.ensures))
