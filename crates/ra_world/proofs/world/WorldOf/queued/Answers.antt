use Rattle.std.proofs.Common.{arith, ◌≡◌, ◌≤◌, length, ap, subst, ◌∙◌}
use Rattle.std.specs.Prelude.{sum_by}
use Rattle.ra_stamp.specs.NodeId.{IsNodeNumber}
use Rattle.ra_node.specs.Node.{queued_count}
use Rattle.ra_world.specs.Run.{IsRun}
use Rattle.ra_world.specs.World.{WorldState, AreQueued}
use Rattle.ra_world.proofs.Worlds.{queued_here}
use Rattle.ra_world.proofs.WorldLaws.{kept_runs_go_on}
use Rattle.ra_world.proofs.world.WorldOf.queued.Goals as goal

pub queued_at-requires : goal.queued_at-requires
queued_at-requires g c =
    let w = c.self.inside in
    let few : sum_by queued_count w.nodes.items ≤ length w.kept.log.moves =
    kept_runs_go_on.queued w.start w.nodes.items w.kept.under_way.items w.kept.log.moves c.self.invariant in
    let same : sum_by queued_count c.deref.result.now ≡ sum_by queued_count w.nodes.items = ap (sum_by queued_count) c.deref.ensures.value in
    omega (arith, few, same, c.len.ensures)

pub returns-clause-value : goal.returns-clause-value
returns-clause-value g c =
    let w = c.self.inside in
    subst (λ (s : WorldState). AreQueued s.count s.start s.moves c.queued_at.result) c.self.view_is
    (queued_here w.start w.nodes.items w.kept.under_way.items w.kept.log.moves c.queued_at.result c.self.invariant kept_runs_go_on.at_all
    (c.queued_at.ensures ∙ ap (sum_by queued_count) c.deref.ensures.value))

pub returns-clause-run : goal.returns-clause-run
returns-clause-run g c = subst (λ (s : WorldState). IsRun s.count s.start s.moves) c.self.view_is c.self.invariant.run

pub returns-clause-count : goal.returns-clause-count
returns-clause-count g c = subst (λ (s : WorldState). IsNodeNumber s.count) c.self.view_is c.self.invariant.count
