use Rattle.std.proofs.Common.{◌≡◌, ◌++◌, map, take, drop}
use Rattle.ra_link.specs.Link as rule
use Rattle.ra_host.proofs.links.sync_all.Given as goal

-- those so far are synced
abbrev pub invariant-loop-link : goal.invariant-loop-link
invariant-loop-link l = l.links ≡ map rule.syncs (take l.link-index l.initial.links) ++ drop l.link-index l.initial.links
