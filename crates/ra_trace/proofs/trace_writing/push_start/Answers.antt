use Rattle.std.proofs.Common.{ℕ, ap}
use Rattle.std.specs.Prelude.{decimal}
use Rattle.ra_text.specs.Lines.{field}
use Rattle.ra_text.proofs.Drafts.{adds_as, adds_both}
use Rattle.ra_trace.proofs.trace_writing.push_start.Goals as goal

pub returns : goal.returns
returns c =
    adds_both (adds_both (adds_both c.push.ensures (adds_as c.push_number.ensures (ap (λ (n : ℕ). field (decimal n)) c.get.ensures.value))) c.push_number-2.ensures)
    (adds_as c.push_field.ensures (ap field c.as_str.ensures))
