use Rattle.std.proofs.Common.{arith}
use Rattle.ra_site.proofs.site.desk.Desk.new.Goals as goal

pub invariant_of-result-clause-waits : goal.invariant_of-result-clause-waits
invariant_of-result-clause-waits c = ∣ (λ k d within. absurd (omega (arith, within))) ∣₁
