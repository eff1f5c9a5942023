use Rattle.std.proofs.Common.{◌≡◌, take}
use Rattle.ra_world.specs.Quiet.{requests_in, withdrawn_in}
use Rattle.ra_world.proofs.world.step_log.changes_of.Given as goal

-- how many there are so far
abbrev pub invariant-loop-mark : goal.invariant-loop-mark
invariant-loop-mark l = record {
  requests : l.requests ≡ requests_in (take l.mark-index l.marks);
  withdrawn : l.withdrawn ≡ withdrawn_in (take l.mark-index l.marks);
}
