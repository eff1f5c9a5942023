use Rattle.ra_link.specs.Link as rule
use Rattle.ra_host.proofs.LinksHeld.{EachOther}
use Rattle.ra_host.proofs.links.Links.may_replay.Given as goal

-- the links of the other hosts so far
abbrev pub invariant-loop-place : goal.invariant-loop-place
invariant-loop-place l = EachOther l.self rule.may_replay l.place
