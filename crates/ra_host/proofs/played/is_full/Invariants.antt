use Rattle.std.proofs.Common.{◌≡◌, map, drop}
use Rattle.ra_host.specs.Full.{is_full}
use Rattle.ra_host.specs.Outgoing.{outgoing_of}
use Rattle.ra_host.proofs.played.is_full.Given as goal

-- what the rest of the outboxes say
abbrev pub invariant-loop-outbox : goal.invariant-loop-outbox
invariant-loop-outbox l = is_full (map outgoing_of (drop l.outbox-index l.outboxes)) ≡ is_full (map outgoing_of l.outboxes)
