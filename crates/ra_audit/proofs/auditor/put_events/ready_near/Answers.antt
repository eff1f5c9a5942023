use Rattle.std.proofs.Common.{ℕ, ◌<◌, length, get_or}
use Rattle.std.proofs.lemmas.List.Elements.{All-from_all_within}
use Rattle.ra_audit.specs.Audit.{ProgressState, IsReady}
use Rattle.ra_audit.proofs.AuditSteps.{match_none}
use Rattle.ra_audit.proofs.auditor.put_events.ready_near.Goals as goal

pub returns : goal.returns
returns c =
    match_none (λ (place : ℕ). (place < length c.args.nodes.now) × ((d : ProgressState) → IsReady c.args.nodes.now (get_or c.args.nodes.now place d))) c.ready_from-2.result
    (All-from_all_within (λ (p : ProgressState). IsReady c.args.nodes.now p → ⊥) c.args.nodes.now)
    c.ready_from-2.ensures
