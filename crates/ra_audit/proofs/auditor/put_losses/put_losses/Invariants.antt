use Rattle.std.proofs.Common.{◌≡◌, List, []}
use Rattle.ra_stamp.specs.declared.entry.Mark.{Mark}
use Rattle.ra_audit.specs.Audit.{Advances, PutsLosses}
use Rattle.ra_audit.specs.AuditKeeping.{AreLookedAt, HasInRun}
use Rattle.ra_audit.proofs.auditor.put_losses.put_losses.Given as goal

-- the run went on by losses, and all frames but those that are left were looked at
abbrev pub invariant-loop-left : goal.invariant-loop-left
invariant-loop-left l = record {
  advances : (told : List Mark) → Advances l.fn.world l.nodes told l.world l.nodes told;
  losses : PutsLosses l.nodes l.fn.losses.losing l.fn.losses.lost l.losses.losing l.losses.lost;
  run : HasInRun l.world l.nodes l.flights l.losses;
  taken : l.losses.noted ≡ [];
  looked : AreLookedAt l.nodes l.left l.losses.losing;
}

-- how many are left
abbrev pub decreases-loop-left : goal.decreases-loop-left
decreases-loop-left l = l.left
