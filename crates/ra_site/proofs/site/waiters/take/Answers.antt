use Rattle.std.proofs.Common.{◌≡◌, ◌≢◌, ℕ, ◌+◌, ◌-◌, ◌<◌, List, length, get_or, vec_len, sym, ap, ◌∙◌, subst}
use Rattle.ra_site.specs.declared.site.waiters.Waiter.{Waiter}
use Rattle.ra_site.specs.Waiting.{IsWaiterFor}
use Rattle.ra_site.proofs.Waiters.{one_fewer, without}
use Rattle.ra_site.proofs.site.waiters.take.Goals as goal

pub returns-clause-left : goal.returns-clause-left
returns-clause-left c =
    let old = c.args.waiters.now.items in
    let new = c.swap_remove-ticket.new.self.items in
    let place = c.in_ok-place.place in
    let all : vec_len c.args.waiters.now ≡ length old = sym c.as_slice.ensures.len ∙ ap length c.as_slice.ensures.value in
    let within : place < length old = subst (λ (ws : List Waiter). place < length ws) c.as_slice.ensures.value c.in_ok-place.ensures.within in
    let by_index = c.swap_remove-ticket.ensures.by_index in
    without old new place within (one_fewer old new place c.swap_remove-ticket.result within c.swap_remove-ticket.ensures.items)
    (subst (λ (n : ℕ). (d : Waiter) → place + 1 < n → get_or new place d ≡ get_or old (n - 1) d) all by_index.0)
    (subst (λ (n : ℕ). (k : ℕ) (d : Waiter) → k ≢ place → k + 1 < n → get_or new k d ≡ get_or old k d) all by_index.1)
    c.requires c.args.client c.args.name.now
    (subst (λ (ws : List Waiter). (d : Waiter) → IsWaiterFor c.args.client c.args.name.now (get_or ws place d)) c.as_slice.ensures.value c.in_ok-place.ensures.waiter)
