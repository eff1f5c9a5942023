use Rattle.std.proofs.Common.{subst}
use Rattle.ra_stamp.specs.NodeId.{IsNodeNumber}
use Rattle.ra_world.specs.Traffic.{LeavesUnderWay}
use Rattle.ra_world.specs.Run.{IsRun}
use Rattle.ra_world.specs.World.{WorldState}
use Rattle.ra_world.proofs.world.WorldOf.message_at.Goals as goal

pub returns-clause-value : goal.returns-clause-value
returns-clause-value g c = (
  c.self.inside.kept.under_way.items,
  subst (λ (s : WorldState). LeavesUnderWay s.moves c.self.inside.kept.under_way.items) c.self.view_is c.self.invariant.under_way,
  c.at.ensures,
)

pub returns-clause-run : goal.returns-clause-run
returns-clause-run g c = subst (λ (s : WorldState). IsRun s.count s.start s.moves) c.self.view_is c.self.invariant.run

pub returns-clause-count : goal.returns-clause-count
returns-clause-count g c = subst (λ (s : WorldState). IsNodeNumber s.count) c.self.view_is c.self.invariant.count
