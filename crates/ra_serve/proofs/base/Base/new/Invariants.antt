use Rattle.std.specs.Prelude.{◌≡◌, replicate}
use Rattle.ra_serve.specs.Peers.{unknown}
use Rattle.ra_serve.proofs.base.Base.new.Given as goal

-- nothing is known of the hosts so far
abbrev pub invariant-loop-turn : goal.invariant-loop-turn
invariant-loop-turn l = l.peers.items ≡ replicate l._turn unknown
