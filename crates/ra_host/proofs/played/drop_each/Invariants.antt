use Rattle.std.proofs.Common.{◌≡◌, ◌<◌, ◌≤◌, ℕ, length, get_or}
use Rattle.ra_host.specs.declared.outbox.Outbox.{Outbox}
use Rattle.ra_host.specs.Outgoing.{drops, outgoing_of}
use Rattle.ra_host.specs.Replaying.{acknowledged_at}
use Rattle.ra_host.proofs.played.drop_each.Given as goal

-- what is acknowledged is dropped of those so far, and the others are as they were
abbrev pub invariant-loop-place : goal.invariant-loop-place
invariant-loop-place l = record {
  len : length l.outboxes.items ≡ length l.initial.outboxes.items;
  done : (k : ℕ) (d : Outbox) → k < l.place → k < length l.initial.outboxes.items
      → outgoing_of (get_or l.outboxes.items k d) ≡ drops (outgoing_of (get_or l.initial.outboxes.items k d)) (acknowledged_at l.links.links.items k);
  rest : (k : ℕ) (d : Outbox) → l.place ≤ k → get_or l.outboxes.items k d ≡ get_or l.initial.outboxes.items k d;
}
