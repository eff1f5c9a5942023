use Rattle.std.proofs.Common.{◌≡◌, List, map, ap, ◌∙◌, subst}
use Rattle.std.specs.List.{range_with_len}
use Rattle.ra_audit.specs.Audit.{ProgressState, AuditState}
use Rattle.ra_audit.specs.AuditKeeping.{AreTaken, IsLeastOf}
use Rattle.ra_audit.proofs.LeastWaiting.{never_sent, match_least, least_left}
use Rattle.ra_audit.proofs.auditor.Auditor.unsettled.Goals as goal

pub returns-clause-left : goal.returns-clause-left
returns-clause-left c =
    let n = c.self.inside.world.count in
    let nodes = c.args.self.now.nodes in
    let view = ap (λ (a : AuditState). a.nodes) c.self.view_is in
    let same : c.deref.result.now ≡ nodes = c.deref.ensures.value ∙ view in
    let numbers = subst (λ (ns : List ProgressState). map (λ p. p.node) ns ≡ range_with_len 1 n) view c.self.invariant.0.numbers in
    match_least nodes c.least_waiting.result (subst (λ (ns : List ProgressState). IsLeastOf ns c.least_waiting.result) same c.least_waiting.ensures.least)
    (never_sent nodes n numbers c.requires (subst AreTaken same c.least_waiting.ensures.taken))

pub returns-clause-least : goal.returns-clause-least
returns-clause-least c =
    let nodes = c.args.self.now.nodes in
    let same : c.deref.result.now ≡ nodes = c.deref.ensures.value ∙ ap (λ (a : AuditState). a.nodes) c.self.view_is in
    least_left nodes c.least_waiting.result (subst AreTaken same c.least_waiting.ensures.taken)
    (subst (λ (ns : List ProgressState). IsLeastOf ns c.least_waiting.result) same c.least_waiting.ensures.least)
