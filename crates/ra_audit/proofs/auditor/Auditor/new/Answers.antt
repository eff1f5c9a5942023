use Rattle.std.proofs.Common.{map, ap, sym, subst, ◌∙◌}
use Rattle.std.specs.Prelude.{All}
use Rattle.std.proofs.lemmas.List.Elements.{All-nil}
use Rattle.ra_frame.specs.declared.frame.Frame.{Frame}
use Rattle.ra_world.specs.Traffic.{lost_by}
use Rattle.ra_world.specs.World.{WorldState}
use Rattle.ra_audit.specs.Audit.{WasSentIn}
use Rattle.ra_audit.specs.AuditKeeping.{LossState, IsTracked}
use Rattle.ra_audit.proofs.Tracking.{tracked_first}
use Rattle.ra_audit.proofs.AuditSteps.{audited_at_first}
use Rattle.ra_audit.proofs.auditor.Auditor.new.Goals as goal

pub invariant_of-result : goal.invariant_of-result
invariant_of-result c = (
  audited_at_first c.args.nodes c.args.start c.in_ok-world.world c.in_ok-world.ensures.count c.in_ok-world.ensures.run c.in_ok-world.ensures.ok
      c.in_ok-progress.progress.items c.in_ok-progress.ensures,
  sym (ap (λ (w : WorldState). w.count) c.in_ok-world.ensures.ok),
  sym (ap (λ (w : WorldState). w.start) c.in_ok-world.ensures.ok),
  ap (λ (w : WorldState). lost_by w.moves) c.in_ok-world.ensures.ok
      ∙ sym (ap (λ (l : LossState). map (λ (f : Frame). f.message) l.lost) c.new-losses.ensures),
  subst (λ (w : WorldState). IsTracked c.in_ok-progress.progress.items w.moves c.in_ok-flights.flights) (sym c.in_ok-world.ensures.ok)
      (tracked_first c.in_ok-progress.progress.items c.args.nodes c.in_ok-flights.flights c.in_ok-progress.ensures c.in_ok-flights.ensures),
  subst (λ (l : LossState). All (WasSentIn c.in_ok-progress.progress.items c.in_ok-world.world.moves) l.lost) (sym c.new-losses.ensures)
      (All-nil (WasSentIn c.in_ok-progress.progress.items c.in_ok-world.world.moves)),
)

pub returns-clause-audited : goal.returns-clause-audited
returns-clause-audited c = (invariant_of-result c).0

pub returns-clause-sent : goal.returns-clause-sent
returns-clause-sent c = record { came = (invariant_of-result c).4.came; losses = (invariant_of-result c).5 }
