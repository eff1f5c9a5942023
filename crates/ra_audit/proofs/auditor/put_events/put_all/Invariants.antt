use Rattle.std.proofs.Common.{◌≡◌, length}
use Rattle.std.specs.Prelude.{sum_by}
use Rattle.ra_world.specs.Traffic.{lost_by}
use Rattle.ra_audit.specs.Audit.{Advances}
use Rattle.ra_audit.specs.AuditKeeping.{IsTracked, StaySent}
use Rattle.ra_audit.proofs.auditor.put_events.put_all.Given as goal

-- the run went on, what is under way is known, and nothing more was lost
abbrev pub invariant-loop-place : goal.invariant-loop-place
invariant-loop-place g l = record {
  advances : Advances l.fn.world l.fn.nodes (g.O.MarkObserver.told l.fn.observer) l.world l.nodes (g.O.MarkObserver.told l.observer);
  granted : g.O.MarkObserver.granted l.observer ≡ g.O.MarkObserver.granted l.fn.observer;
  unlost : lost_by l.world.moves ≡ lost_by l.fn.world.moves;
  tracked : IsTracked l.nodes l.world.moves l.flights;
  stay : StaySent l.fn.nodes l.fn.world.moves l.nodes l.world.moves;
}

-- how many events wait
abbrev pub decreases-loop-place : goal.decreases-loop-place
decreases-loop-place g l = sum_by (λ p. length p.waiting) l.nodes
