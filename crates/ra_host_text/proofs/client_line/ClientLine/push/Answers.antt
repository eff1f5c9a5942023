use Rattle.std.proofs.Common.{ap, refl, subst}
use Rattle.ra_stamp.specs.Name.{IsName}
use Rattle.ra_text.specs.Lines.{field}
use Rattle.ra_text.proofs.Drafts.{adds_as, adds_both}
use Rattle.ra_host_text.proofs.client_line.ClientLine.push.Goals as goal

pub returns-in-Lock-clause-text : goal.returns-in-Lock-clause-text
returns-in-Lock-clause-text c =
    let name = adds_as c.push_field.ensures (ap field c.as_str.ensures) in
    let mode = adds_as c.push_field-in-Lock.ensures (ap field c.word.ensures) in
    rw c.in-Lock.is (adds_both (adds_both (adds_both c.push.ensures name) mode) c.push_within.ensures.text)

pub returns-in-Lock-clause-line : goal.returns-in-Lock-clause-line
returns-in-Lock-clause-line c = rw c.in-Lock.is ((subst IsName c.bytes.ensures.value c.bytes.ensures.valid, c.push_within.ensures.fits), refl)

pub returns-in-Unlock-clause-text : goal.returns-in-Unlock-clause-text
returns-in-Unlock-clause-text c = rw c.in-Unlock.is (adds_both c.push-in-Unlock.ensures (adds_as c.push_field-in-Unlock.ensures (ap field c.as_str-in-Unlock.ensures)))
