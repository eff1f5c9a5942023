use Rattle.std.proofs.Common.{ap, ℕ}
use Rattle.std.specs.Prelude.{decimal}
use Rattle.ra_text.specs.Lines.{field}
use Rattle.ra_text.proofs.Drafts.{adds_as, adds_both}
use Rattle.ra_host_text.proofs.answer.Answer.push.Goals as goal

pub returns-in-Granted-clause-text : goal.returns-in-Granted-clause-text
returns-in-Granted-clause-text c =
    let node = adds_as c.push_number-in-Granted.ensures (ap (λ (n : ℕ). field (decimal n)) c.get.ensures.value) in
    rw c.in-Granted.is (adds_both (adds_both c.push_named.ensures.text c.push_number.ensures) node)

pub returns-in-Refused-clause-text : goal.returns-in-Refused-clause-text
returns-in-Refused-clause-text c =
    rw c.in-Refused.is (adds_both c.push_named-in-Refused.ensures.text (adds_as c.push_field.ensures (ap field c.word.ensures)))
