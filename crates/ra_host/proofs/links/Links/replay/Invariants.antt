use Rattle.ra_host.proofs.ReplayedLinks.{NoneAccuses}
use Rattle.ra_host.proofs.links.Links.replay.Given as goal

-- no link so far shows that the book is old
abbrev pub invariant-loop-place : goal.invariant-loop-place
invariant-loop-place l = NoneAccuses l.self l.played.outgoing l.place
