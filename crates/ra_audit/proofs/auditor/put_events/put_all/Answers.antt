use Rattle.std.proofs.Common.{refl, ◌∙◌}
use Rattle.ra_audit.proofs.AuditSteps.{advances_none, advances_then}
use Rattle.ra_audit.proofs.auditor.put_events.put_all.Goals as goal

pub loop-place-init : goal.loop-place-init
loop-place-init g c = record {
  advances = advances_none c.args.world.now c.args.nodes.now (g.O.MarkObserver.told c.args.observer.now) c.requires.audited;
  granted = refl;
  unlost = refl;
  tracked = c.requires.tracked;
  stay = λ frame was. was;
}

pub loop-place-preserved : goal.loop-place-preserved
loop-place-preserved g c = record {
  advances = advances_then _ _ _ _ _ _ _ _ _ c.loop-place.invariant.advances c.in_ok-put_next.ensures.advances;
  granted = c.in_ok-put_next.ensures.granted ∙ c.loop-place.invariant.granted;
  unlost = c.in_ok-put_next.ensures.unlost ∙ c.loop-place.invariant.unlost;
  tracked = c.in_ok-put_next.ensures.tracked;
  stay = λ frame was. c.in_ok-put_next.ensures.stay frame (c.loop-place.invariant.stay frame was);
}

pub returns-in_err-put_next-clause-advances : goal.returns-in_err-put_next-clause-advances
returns-in_err-put_next-clause-advances g c = advances_then _ _ _ _ _ _ _ _ _ c.loop-place.invariant.advances c.in_err-put_next.ensures.advances

pub returns-in_err-put_next-clause-unlost : goal.returns-in_err-put_next-clause-unlost
returns-in_err-put_next-clause-unlost g c = c.in_err-put_next.ensures.unlost ∙ c.loop-place.invariant.unlost

pub returns-in_err-put_next-clause-granted : goal.returns-in_err-put_next-clause-granted
returns-in_err-put_next-clause-granted g c = c.in_err-put_next.ensures.granted ∙ c.loop-place.invariant.granted

pub returns-in_err-put_next-clause-stay : goal.returns-in_err-put_next-clause-stay
returns-in_err-put_next-clause-stay g c = λ frame was. c.in_err-put_next.ensures.stay frame (c.loop-place.invariant.stay frame was)
