use Rattle.std.proofs.Common.{ap, ℕ}
use Rattle.std.specs.Prelude.{decimal}
use Rattle.ra_text.specs.Lines.{field}
use Rattle.ra_text.proofs.Drafts.{adds_as, adds_both}
use Rattle.ra_serve.proofs.notes.push_settings.Goals as goal

pub returns : goal.returns
returns c =
    let number = λ (n : ℕ). field (decimal n) in
    let theirs = adds_as c.push_number.ensures (ap number c.get.ensures.value) in
    let own = adds_as c.push_number-3.ensures (ap number c.nodes.ensures.value) in
    adds_both (adds_both (adds_both (adds_both (adds_both c.push_field.ensures theirs) c.push_number-2.ensures) c.push.ensures) own) c.push_number-4.ensures
