use Rattle.std.proofs.Common.{rules, ◌≡◌, ◌+◌, ◌++◌, ◌∷◌, [], ap, ◌∙◌}
use Rattle.ra_audit.specs.Audit.{ProgressState, fresh_progress}
use Rattle.ra_audit.proofs.AuditSteps.{fresh_more}
use Rattle.ra_audit.proofs.auditor.none_taken.Goals as goal

pub loop-place-preserved : goal.loop-place-preserved
loop-place-preserved c =
    let before = c.loop-place.progress.items in
    let number : c.at-node.result ≡ c.loop-place.place + 1 = search rules in
    c.in_ok-push.ensures.items
    ∙ ap (λ (p : ProgressState). before ++ p ∷ []) (c.new.ensures ∙ ap fresh_progress number)
    ∙ fresh_more c.loop-place.place before c.loop-place.invariant
