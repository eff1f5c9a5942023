use Rattle.std.proofs.Common.{arith, ◌≡◌, ◌≤◌, length, sym, ap, ◌∙◌, subst}
use Rattle.std.specs.Prelude.{sum_by}
use Rattle.ra_node.specs.Node.{waiting_count, queued_count}
use Rattle.ra_world.specs.declared.text.report.Figures.{Figures}
use Rattle.ra_stamp.specs.NodeId.{IsNodeNumber}
use Rattle.ra_world.specs.Run.{IsRun, marks_of}
use Rattle.ra_world.specs.Keeping.{report_with}
use Rattle.ra_world.specs.World.{WorldState, Reports}
use Rattle.ra_world.proofs.Worlds.{reported}
use Rattle.ra_world.proofs.WorldLaws.{kept_runs_go_on}
use Rattle.ra_world.proofs.world.WorldOf+1.figures.Goals as goal

pub queued_at-requires : goal.queued_at-requires
queued_at-requires c =
    let w = c.self.inside in
    let few : sum_by queued_count w.nodes.items ≤ length w.kept.log.moves =
    kept_runs_go_on.queued w.start w.nodes.items w.kept.under_way.items w.kept.log.moves c.self.invariant in
    let same : sum_by queued_count c.deref-2.result.now ≡ sum_by queued_count w.nodes.items = ap (sum_by queued_count) c.deref-2.ensures.value in
    omega (arith, few, same, c.len.ensures)

pub returns-clause-figures : goal.returns-clause-figures
returns-clause-figures c marks are =
    let w = c.self.inside in
    let figures : Figures = record {
      sent = c.counts-counts.result.sent;
      requests = c.counts-counts.result.requests;
      under_way = c.from.result;
      lost = c.from-2.result;
      repeated = c.from-3.result;
      withdrawn = c.counts-counts.result.withdrawn;
      waiting = c.waiting_at.result;
      queued = c.queued_at.result;
    } in
    let kept : marks.items ≡ marks_of w.kept.log.moves = are ∙ sym (ap (λ (s : WorldState). marks_of s.moves) c.self.view_is) in
    subst (λ (s : WorldState). Reports s.count s.start s.moves (report_with figures marks)) c.self.view_is
    (reported w.start w.nodes.items w.kept.under_way.items w.kept.log.moves (report_with figures marks) c.self.invariant kept_runs_go_on.at_all
    kept c.counts-counts.ensures.sent c.counts-counts.ensures.requests
    (c.from.ensures ∙ c.len-2.ensures) (c.from-2.ensures ∙ c.counts-counts.ensures.lost) (c.from-3.ensures ∙ c.counts-counts.ensures.repeated) c.counts-counts.ensures.withdrawn
    (c.waiting_at.ensures ∙ ap (sum_by waiting_count) c.deref.ensures.value)
    (c.queued_at.ensures ∙ ap (sum_by queued_count) c.deref-2.ensures.value))

pub returns-clause-run : goal.returns-clause-run
returns-clause-run c = subst (λ (s : WorldState). IsRun s.count s.start s.moves) c.self.view_is c.self.invariant.run

pub returns-clause-count : goal.returns-clause-count
returns-clause-count c = subst (λ (s : WorldState). IsNodeNumber s.count) c.self.view_is c.self.invariant.count
