use Rattle.std.specs.Prelude.{ℕ, ◌<◌, slice_index_or}
use Rattle.ra_site.specs.declared.site.waiters.Waiter.{Waiter}
use Rattle.ra_site.specs.Waiting.{IsWaiterFor}
use Rattle.ra_site.proofs.site.waiters.place_of.Given as goal

-- none of the waiters so far is the client
abbrev pub invariant-loop-place : goal.invariant-loop-place
invariant-loop-place l = (k : ℕ) (d : Waiter) → k < l.place → IsWaiterFor l.client l.name (slice_index_or l.waiters k d) → ⊥
