use Rattle.std.proofs.Common.{◌≡◌, ◌<◌, ◌≤◌, ℕ, length, get_or}
use Rattle.ra_link.specs.declared.link.Link.{Link}
use Rattle.ra_host.specs.Outgoing.{made_at}
use Rattle.ra_host.specs.Replaying.{replayed}
use Rattle.ra_host.proofs.links.replay_all.Given as goal

-- the links so far are replayed, and the others are as they were
abbrev pub invariant-loop-place : goal.invariant-loop-place
invariant-loop-place l = record {
  len : length l.links.items ≡ length l.initial.links.items;
  done : (k : ℕ) (d : Link) → k < l.place → k < length l.initial.links.items → get_or l.links.items k d ≡ replayed (get_or l.initial.links.items k d) (made_at l.played.outgoing k);
  rest : (k : ℕ) (d : Link) → l.place ≤ k → get_or l.links.items k d ≡ get_or l.initial.links.items k d;
}
