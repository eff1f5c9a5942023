use Rattle.std.proofs.Common.{rules, ◌≡◌, ◌<◌, List, [], length, subst, arith}
use Rattle.ra_site.specs.declared.site.waiters.Waiter.{Waiter}
use Rattle.ra_site.proofs.site.desk.Desk.fail.Goals as goal

pub invariant_of-self-clause-waits : goal.invariant_of-self-clause-waits
invariant_of-self-clause-waits c =
    let nobody : c.replace.new.dest.items ≡ [] = search rules in
    ∣ (λ k d within. absurd (omega (arith, subst (λ (ws : List Waiter). k < length ws) nobody within))) ∣₁
