use Rattle.std.proofs.Common.{rules, ◌≡◌, ◌⊎◌, ◌↔◌, Any, Some}
use Rattle.std.specs.Prelude.{IsTrue}
use Rattle.ra_node.proofs.Distinct.{busy_is}
use Rattle.ra_node.proofs.slot.Slot.is_busy.Goals as goal

pub returns-then-eq : goal.returns-then-eq
returns-then-eq c =
    let r = c.args.self.now in
    let is = busy_is r c.args.client in
    let either : IsTrue c.eq.result ↔ ((r.client ≡ Some c.args.client) ⊎ Any (λ q. q.client ≡ c.args.client) r.queue) = search rules in
    (λ yes. is.1 (either.0 yes), λ busy. either.1 (is.0 busy))

pub returns-else-eq : goal.returns-else-eq
returns-else-eq c =
    let r = c.args.self.now in
    let is = busy_is r c.args.client in
    let either : IsTrue c.has.result ↔ ((r.client ≡ Some c.args.client) ⊎ Any (λ q. q.client ≡ c.args.client) r.queue) = search rules in
    (λ yes. is.1 (either.0 yes), λ busy. either.1 (is.0 busy))
