use Rattle.std.proofs.Common.{ℕ, ap}
use Rattle.std.specs.Prelude.{decimal}
use Rattle.ra_text.specs.Lines.{field}
use Rattle.ra_text.proofs.Drafts.{adds_as, adds_both}
use Rattle.ra_text.proofs.draft.Draft.push_ends.Goals as goal

pub returns : goal.returns
returns c =
    adds_both (adds_both (adds_both c.push_field.ensures (adds_as c.push_number.ensures (ap (λ (n : ℕ). field (decimal n)) c.get.ensures.value)))
    (adds_as c.push_number-2.ensures (ap (λ (n : ℕ). field (decimal n)) c.get-2.ensures.value)))
    (adds_as c.push_field-2.ensures (ap field c.as_str.ensures))
