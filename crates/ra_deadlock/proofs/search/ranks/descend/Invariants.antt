use Rattle.std.proofs.Common.{ℕ, ◌<◌, get_or, length}
use Rattle.ra_deadlock.specs.declared.search.ranks.Ranked.{Ranked}
use Rattle.ra_deadlock.specs.Ranks.{Agree, AgreesWithClient, client_of, client_rank}
use Rattle.ra_deadlock.proofs.search.ranks.descend.Given as goal

-- each rank so far agrees with that of its client, and with those after it
abbrev pub invariant-loop-place : goal.invariant-loop-place
invariant-loop-place l =
    record {
      clients : (k : ℕ) (d : Ranked) → k < l.place → AgreesWithClient (get_or l.ranked.items k d) (client_rank l.graph.client_ranks (client_of (get_or l.ranked.items k d).request));
      pairs : (k j : ℕ) (d : Ranked) → k < l.place → k < j → j < length l.ranked.items → Agree (get_or l.ranked.items k d) (get_or l.ranked.items j d);
    }
