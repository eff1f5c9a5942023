use Rattle.std.proofs.Common.{ap, subst, ◌∙◌}
use Rattle.std.specs.Prelude.{sum_by}
use Rattle.ra_stamp.specs.NodeId.{IsNodeNumber}
use Rattle.ra_node.specs.Node.{waiting_count}
use Rattle.ra_world.specs.Run.{IsRun}
use Rattle.ra_world.specs.World.{WorldState, AreWaiting}
use Rattle.ra_world.proofs.Worlds.{waiting_here}
use Rattle.ra_world.proofs.WorldLaws.{kept_runs_go_on}
use Rattle.ra_world.proofs.world.WorldOf.waiting.Goals as goal

pub returns-clause-value : goal.returns-clause-value
returns-clause-value g c =
    let w = c.self.inside in
    subst (λ (s : WorldState). AreWaiting s.count s.start s.moves c.waiting_at.result) c.self.view_is
    (waiting_here w.start w.nodes.items w.kept.under_way.items w.kept.log.moves c.waiting_at.result c.self.invariant kept_runs_go_on.at_all
    (c.waiting_at.ensures ∙ ap (sum_by waiting_count) c.deref.ensures.value))

pub returns-clause-run : goal.returns-clause-run
returns-clause-run g c = subst (λ (s : WorldState). IsRun s.count s.start s.moves) c.self.view_is c.self.invariant.run

pub returns-clause-count : goal.returns-clause-count
returns-clause-count g c = subst (λ (s : WorldState). IsNodeNumber s.count) c.self.view_is c.self.invariant.count
