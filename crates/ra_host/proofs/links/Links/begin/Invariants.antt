use Rattle.std.proofs.Common.{◌≡◌, map, take}
use Rattle.ra_link.specs.Link as rule
use Rattle.ra_host.proofs.links.Links.begin.Given as goal

-- the links so far
abbrev pub invariant-loop-count : goal.invariant-loop-count
invariant-loop-count l = l.links.items ≡ map (rule.started l.nonce) (take l.count-index l.taken)
