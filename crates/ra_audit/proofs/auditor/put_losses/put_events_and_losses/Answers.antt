use Rattle.std.proofs.Common.{rules, inl, inr, ap, sym, subst, ◌∙◌}
use Rattle.std.specs.Prelude.{All, Result, Ok, Err, IsErrOf, OnErr}
use Rattle.ra_audit.specs.declared.audit_error.AuditError.{AuditError}
use Rattle.ra_audit.specs.Audit.{HasLost, PutsLosses, WasSentIn}
use Rattle.ra_audit.specs.AuditKeeping.{LossState}
use Rattle.ra_audit.proofs.AuditSteps.{advances_then}
use Rattle.ra_audit.proofs.AuditLosses.{puts_none}
use Rattle.ra_audit.proofs.Tracking.{lost_still}
use Rattle.ra_audit.proofs.auditor.put_losses.put_events_and_losses.Goals as goal

some_error : {A : Type 0} (r : Result (Unit {0}) AuditError) (e : AuditError) → IsErrOf r e → OnErr r A → A
some_error (Ok x) e is h = absurd cc
some_error (Err x) e is h = h

pub put_losses-requires : goal.put_losses-requires
put_losses-requires g c = record {
  run = record {
    audited = c.in_ok-put_all.ensures.advances.audited;
    lost =
        subst (λ (l : LossState). HasLost c.put_all.new.world.moves l.lost) (sym c.in_ok-take_noted.ensures.ok)
        (c.in_ok-put_all.ensures.unlost ∙ c.requires.lost);
    tracked = c.in_ok-put_all.ensures.tracked;
    sent =
        subst (λ (l : LossState). All (WasSentIn c.put_all.new.nodes c.put_all.new.world.moves) l.lost) (sym c.in_ok-take_noted.ensures.ok)
        (lost_still c.args.nodes.now c.put_all.new.nodes c.args.world.now.moves c.put_all.new.world.moves c.args.losses.now.lost c.in_ok-put_all.ensures.stay
        c.requires.sent);
  };
  taken = ap (λ (l : LossState). l.noted) c.in_ok-take_noted.ensures.ok;
}

pub returns-in_err-put_all-clause-losses : goal.returns-in_err-put_all-clause-losses
returns-in_err-put_all-clause-losses g c = puts_none c.put_all.new.nodes c.args.losses.now.losing c.args.losses.now.lost

pub returns-in_err-put_all-clause-run : goal.returns-in_err-put_all-clause-run
returns-in_err-put_all-clause-run g c = record {
  audited = c.in_err-put_all.ensures.advances.audited;
  lost = c.in_err-put_all.ensures.unlost ∙ c.requires.lost;
  tracked = c.in_err-put_all.ensures.tracked;
  sent =
      lost_still c.args.nodes.now c.put_all.new.nodes c.args.world.now.moves c.put_all.new.world.moves c.args.losses.now.lost c.in_err-put_all.ensures.stay
      c.requires.sent;
}

pub returns-in_err-take_noted-clause-losses : goal.returns-in_err-take_noted-clause-losses
returns-in_err-take_noted-clause-losses g c =
    let old = c.args.losses.now in
    subst (λ (l : LossState). PutsLosses c.put_all.new.nodes old.losing old.lost l.losing l.lost) (sym c.in_err-take_noted.ensures.err)
    (puts_none c.put_all.new.nodes old.losing old.lost)

pub returns-in_err-take_noted-clause-run : goal.returns-in_err-take_noted-clause-run
returns-in_err-take_noted-clause-run g c = record {
  audited = c.in_ok-put_all.ensures.advances.audited;
  lost =
      subst (λ (l : LossState). HasLost c.put_all.new.world.moves l.lost) (sym c.in_err-take_noted.ensures.err)
      (c.in_ok-put_all.ensures.unlost ∙ c.requires.lost);
  tracked = c.in_ok-put_all.ensures.tracked;
  sent =
      subst (λ (l : LossState). All (WasSentIn c.put_all.new.nodes c.put_all.new.world.moves) l.lost) (sym c.in_err-take_noted.ensures.err)
      (lost_still c.args.nodes.now c.put_all.new.nodes c.args.world.now.moves c.put_all.new.world.moves c.args.losses.now.lost c.in_ok-put_all.ensures.stay
      c.requires.sent);
}

pub returns-clause-advances : goal.returns-clause-advances
returns-clause-advances g c = advances_then _ _ _ _ _ _ _ _ _ c.in_ok-put_all.ensures.advances (c.put_losses.ensures.advances (g.O.MarkObserver.told c.put_all.new.observer))

pub returns-clause-losses : goal.returns-clause-losses
returns-clause-losses g c =
    let new = c.put_losses.new.losses in
    subst (λ (l : LossState). PutsLosses c.put_all.new.nodes l.losing l.lost new.losing new.lost) c.in_ok-take_noted.ensures.ok c.put_losses.ensures.losses

pub returns-in_err-put_all-clause-memory : goal.returns-in_err-put_all-clause-memory
returns-in_err-put_all-clause-memory g c is = inl (c.in_err-put_all.ensures.memory (search rules))

pub returns-in_err-take_noted-clause-memory : goal.returns-in_err-take_noted-clause-memory
returns-in_err-take_noted-clause-memory g c _ = inr (c.in_ok-put_all.ensures.ok, c.in_err-take_noted.ensures.some)

pub returns-clause-memory : goal.returns-clause-memory
returns-clause-memory g c is = inr (c.in_ok-put_all.ensures.ok, some_error c.put_losses.result _ is c.put_losses.ensures.some)
