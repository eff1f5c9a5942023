use Rattle.std.proofs.Common.{ap, ◌∙◌}
use Rattle.std.specs.Prelude.{slice_get}
use Rattle.ra_audit.specs.Audit.{ProgressState}
use Rattle.ra_audit.proofs.NextEvents.{first_for, next_taken}
use Rattle.ra_audit.proofs.auditor.node_progress.NodeProgress.next.Goals as goal

pub returns-clause-value : goal.returns-clause-value
returns-clause-value c = c.first_of.ensures ∙ ap (λ (p : ProgressState). slice_get p.waiting 0) c.self.view_is

pub returns-clause-for_node : goal.returns-clause-for_node
returns-clause-for_node c = first_for c.self.inside c.args.self.now c.self.view_is c.self.invariant c.first_of.result (returns-clause-value c)

pub returns-clause-taken : goal.returns-clause-taken
returns-clause-taken c = next_taken c.self.inside c.args.self.now c.self.view_is c.self.invariant
