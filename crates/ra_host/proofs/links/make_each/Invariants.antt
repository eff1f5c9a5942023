use Rattle.std.proofs.Common.{◌≡◌, drop}
use Rattle.ra_host.specs.Making.{makes_each}
use Rattle.ra_host.proofs.links.make_each.Given as goal

-- what the rest of the messages make
abbrev pub invariant-loop-message : goal.invariant-loop-message
invariant-loop-message l = makes_each l.links.items (drop l.message-index l.sends) ≡ makes_each l.initial.links.items l.sends
