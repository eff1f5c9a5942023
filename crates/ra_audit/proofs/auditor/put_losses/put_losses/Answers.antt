use Rattle.std.proofs.Common.{◌<◌, length, arith, subst, sym, ◌∙◌}
use Rattle.ra_audit.specs.AuditKeeping.{LossState}
use Rattle.ra_audit.specs.Audit.{PutsLosses}
use Rattle.ra_audit.proofs.AuditSteps.{advances_none, advances_then}
use Rattle.ra_audit.proofs.AuditLosses.{puts_none, puts_first, puts_further, noted_as, none_looked_at, one_looked_at, all_looked_at, some_left}
use Rattle.ra_audit.proofs.auditor.put_losses.put_losses.Goals as goal

pub loop-left-init : goal.loop-left-init
loop-left-init c = record {
  advances = λ told. advances_none c.args.world.now c.args.nodes.now told c.requires.run.audited;
  losses = puts_none c.args.nodes.now c.args.losses.now.losing c.args.losses.now.lost;
  run = c.requires.run;
  taken = c.requires.taken;
  looked = none_looked_at c.args.nodes.now c.losing-left.result c.args.losses.now.losing c.losing-left.ensures;
}

pub put_first-requires : goal.put_first-requires
put_first-requires c =
    let i = c.loop-left.invariant in
    let some : 0 < c.loop-left.left = omega (arith, c.loop-left-test.true) in
    record {
      run = i.run;
      taken = i.taken;
      some = some_left c.args.nodes.now c.loop-left.left c.loop-left.losses.losing i.looked some;
    }

pub loop-left-preserved : goal.loop-left-preserved
loop-left-preserved c =
    let i = c.loop-left.invariant in
    let nodes = c.args.nodes.now in
    let old = c.loop-left.losses in
    let new = c.put_first.new.losses in
    let some : 0 < c.loop-left.left = omega (arith, c.loop-left-test.true) in
    record {
      advances = λ told. advances_then _ _ _ _ _ _ _ _ _ (i.advances told) (c.in-Ok.ensures.advances told);
      losses = puts_further nodes c.args.losses.now.losing c.args.losses.now.lost old.losing old.lost new.losing new.lost i.losses (puts_first nodes old new c.in-Ok.ensures.ok);
      run = c.in-Ok.ensures.run;
      taken = noted_as nodes old new c.in-Ok.ensures.ok ∙ i.taken;
      looked = one_looked_at nodes c.loop-left.left old new some i.looked c.in-Ok.ensures.ok;
    }

pub returns-in-Err-clause-advances : goal.returns-in-Err-clause-advances
returns-in-Err-clause-advances c = λ told. advances_then _ _ _ _ _ _ _ _ _ (c.loop-left.invariant.advances told) (c.in-Err.ensures.advances told)

pub returns-in-Err-clause-losses : goal.returns-in-Err-clause-losses
returns-in-Err-clause-losses c =
    let nodes = c.args.nodes.now in
    let old = c.args.losses.now in
    subst (λ (l : LossState). PutsLosses nodes old.losing old.lost l.losing l.lost) (sym c.in-Err.ensures.err) c.loop-left.invariant.losses

pub returns-clause-ok : goal.returns-clause-ok
returns-clause-ok c =
    all_looked_at c.args.nodes.now c.loop-left.left c.loop-left.losses.losing (omega (arith, c.loop-left-test.false)) c.loop-left.invariant.looked

pub returns-in-Err-clause-some : goal.returns-in-Err-clause-some
returns-in-Err-clause-some c =
    let some : 0 < c.loop-left.left = omega (arith, c.loop-left-test.true) in
    subst (λ (l : LossState). 0 < length l.losing) (sym c.in-Err.ensures.err) (some_left c.args.nodes.now c.loop-left.left c.loop-left.losses.losing c.loop-left.invariant.looked some)
