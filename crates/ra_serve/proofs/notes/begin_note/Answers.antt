use Rattle.std.proofs.Common.{ap, ℕ}
use Rattle.std.specs.Prelude.{decimal}
use Rattle.ra_text.specs.Lines.{field}
use Rattle.ra_text.proofs.Drafts.{adds_as, adds_both}
use Rattle.ra_serve.proofs.notes.begin_note.Goals as goal

pub returns : goal.returns
returns c = adds_both c.push.ensures (adds_as c.push_number.ensures (ap (λ (n : ℕ). field (decimal n)) c.get.ensures.value))
