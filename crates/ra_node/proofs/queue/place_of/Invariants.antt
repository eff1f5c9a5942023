use Rattle.std.proofs.Common.{◌≡◌, ◌≢◌, ◌<◌, ℕ, get_or}
use Rattle.ra_node.specs.declared.queued_client.Queued.{Queued}
use Rattle.ra_node.proofs.queue.place_of.Given as goal

-- none of those so far is the client
abbrev pub invariant-loop-place : goal.invariant-loop-place
invariant-loop-place l =
    record {
      none : (k : ℕ) → k < l.place → (queued : Queued) → get_or l.clients.items k queued ≡ queued → queued.client ≢ l.client;
    }
