use Rattle.std.proofs.Common.{◌≡◌, map, take}
use Rattle.ra_host.specs.Outgoing.{none_of, outgoing_of}
use Rattle.ra_host.proofs.played.Played.new.Given as goal

-- the outboxes so far
abbrev pub invariant-loop-count : goal.invariant-loop-count
invariant-loop-count l = map outgoing_of l.outboxes.items ≡ map none_of (take l.count-index l.dropped)
