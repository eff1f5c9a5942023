use Rattle.std.proofs.Common.{◌≡◌, ◌-◌}
use Rattle.ra_host.specs.Outgoing.{drops, outgoing_of}
use Rattle.ra_host.proofs.outbox.Outbox.drop_first.Given as goal

-- what is left to be dropped
abbrev pub invariant-loop-self : goal.invariant-loop-self
invariant-loop-self l = drops (outgoing_of l.self) l.count ≡ drops (outgoing_of l.initial.self) l.count

abbrev pub decreases-loop-self : goal.decreases-loop-self
decreases-loop-self l = l.count - l.self.dropped
