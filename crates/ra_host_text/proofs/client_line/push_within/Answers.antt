use Rattle.std.proofs.Common.{ap, subst, ℕ}
use Rattle.std.specs.Prelude.{decimal}
use Rattle.ra_text.specs.Lines.{field}
use Rattle.ra_text.proofs.Drafts.{adds_as, adds_both}
use Rattle.ra_host_text.specs.Wait.{IsWait}
use Rattle.ra_host_text.proofs.client_line.push_within.Goals as goal

pub returns-in-Some-clause-text : goal.returns-in-Some-clause-text
returns-in-Some-clause-text c =
    let number = adds_as c.push_number.ensures (ap (λ (n : ℕ). field (decimal n)) c.get.ensures.value) in
    rw c.in-Some.is (adds_both c.push.ensures number)

pub returns-in-Some-clause-fits : goal.returns-in-Some-clause-fits
returns-in-Some-clause-fits c = rw c.in-Some.is (subst IsWait c.get.ensures.value c.get.ensures.valid)
