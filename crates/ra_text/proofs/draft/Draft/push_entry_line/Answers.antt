use Rattle.std.proofs.Common.{ℕ, ap}
use Rattle.std.specs.Prelude.{decimal}
use Rattle.ra_text.specs.Lines.{field}
use Rattle.ra_text.proofs.Drafts.{adds_as, adds_both}
use Rattle.ra_text.proofs.draft.Draft.push_entry_line.Goals as goal

pub returns : goal.returns
returns c =
    let node = adds_as c.push_number.ensures (ap (λ (n : ℕ). field (decimal n)) c.get.ensures.value) in
    let name = adds_as c.push_field.ensures (ap field c.as_str.ensures) in
    let mode = adds_as c.push_field-2.ensures (ap field c.word.ensures) in
    adds_both (adds_both c.push.ensures (adds_both (adds_both (adds_both (adds_both node c.push_number-2.ensures) name) mode) c.push_number-3.ensures)) c.end_line.ensures
