use Rattle.std.proofs.Common.{◌≡◌, ℕ, ◌<◌, [], length, Err, ap, sym, ◌∙◌, subst, arith}
use Rattle.std.proofs.lemmas.Result.{err_from_is_err_and}
use Rattle.std.proofs.lemmas.List.Elements.{AllWithin-none, AllWithin-upto, All-from_all_within}
use Rattle.ra_audit.specs.Audit.{AuditState, ProgressState, IsNotTaken, TakesByAnswer}
use Rattle.ra_audit.proofs.AuditRounds.{took_nothing, took_further, took_last, none_kept_more, not_taken_from, length_of}
use Rattle.ra_audit.proofs.auditor.audit_round.take_all.Goals as goal

pub loop-place-init : goal.loop-place-init
loop-place-init g c = record {
  up_to = took_nothing c.args.auditor.now c.requires.audited;
  kept = AllWithin-none (λ (p : ProgressState). p.kept ≡ []) c.args.auditor.now.nodes 0;
}

pub loop-place-preserved : goal.loop-place-preserved
loop-place-preserved g c =
    let mid = c.loop-place.auditor in
    let more = c.loop-place.invariant.up_to.more in
    let count = ap (λ (a : AuditState). a.world.count) more.rest in
    let long = length_of mid.world mid.nodes more.audited in
    let within : c.loop-place.place < length mid.nodes = omega (arith, long, count, c.requires.count, c.nodes-place-end.ensures, c.loop-place-test.true) in
    record {
      up_to = took_further c.args.auditor.now mid c.take_from.new.auditor c.loop-place.place within c.loop-place.invariant.up_to c.in_ok-take_from.ensures.more c.in_ok-take_from.ensures.all;
      kept = none_kept_more mid.nodes c.take_from.new.auditor.nodes mid.losing c.take_from.new.auditor.losing c.loop-place.place within c.loop-place.invariant.kept c.in_ok-take_from.ensures.all;
    }

pub returns-in_err-take_from-clause-not_taken : goal.returns-in_err-take_from-clause-not_taken
returns-in_err-take_from-clause-not_taken g c = λ node cause is.
    let mid = c.loop-place.auditor in
    let more = c.loop-place.invariant.up_to.more in
    let count = ap (λ (a : AuditState). a.world.count) more.rest in
    let long = length_of mid.world mid.nodes more.audited in
    let within : c.loop-place.place < length mid.nodes = omega (arith, long, count, c.requires.count, c.nodes-place-end.ensures, c.loop-place-test.true) in
    let p = err_from_is_err_and c.from_residual.result c.from_residual.ensures.1 in
    let at = c.in_err-take_from.ensures.not_taken node cause (sym (ap (λ x. Err x) p.2) ∙ sym p.1 ∙ is) (omega (arith, within)) in
    subst (λ (n : ℕ). IsNotTaken c.take_from.new.auditor.nodes n cause) (sym at.0)
    (not_taken_from mid.nodes c.take_from.new.auditor.nodes c.loop-place.place cause within c.loop-place.invariant.kept at.1)

pub returns-in_err-take_from-clause-more : goal.returns-in_err-take_from-clause-more
returns-in_err-take_from-clause-more g c =
    let mid = c.loop-place.auditor in
    let more = c.loop-place.invariant.up_to.more in
    let count = ap (λ (a : AuditState). a.world.count) more.rest in
    let long = length_of mid.world mid.nodes more.audited in
    let within : c.loop-place.place < length mid.nodes = omega (arith, long, count, c.requires.count, c.nodes-place-end.ensures, c.loop-place-test.true) in
    let p = err_from_is_err_and c.from_residual.result c.from_residual.ensures.1 in
    let last = took_last c.args.auditor.now mid c.take_from.new.auditor c.loop-place.place within c.loop-place.invariant.up_to c.in_err-take_from.ensures.more in
    subst (TakesByAnswer c.args.auditor.now c.take_from.new.auditor) (sym p.1) (record { more = last; asked = tt })

pub returns-clause-more : goal.returns-clause-more
returns-clause-more g c =
    let up_to = c.loop-place.invariant.up_to in
    let mid = c.loop-place.auditor in
    let more = up_to.more in
    let count = ap (λ (a : AuditState). a.world.count) more.rest in
    let long = length_of mid.world mid.nodes more.audited in
    record {
      more = more;
      asked = omega (arith, up_to.long, long, count, c.requires.count, c.nodes-place-end.ensures, c.loop-place-test.false, c.loop-place.auto.place-end);
    }

pub returns-clause-kept : goal.returns-clause-kept
returns-clause-kept g c =
    let mid = c.loop-place.auditor in
    let more = c.loop-place.invariant.up_to.more in
    let count = ap (λ (a : AuditState). a.world.count) more.rest in
    let long = length_of mid.world mid.nodes more.audited in
    All-from_all_within (λ (p : ProgressState). p.kept ≡ []) mid.nodes
    (AllWithin-upto (λ (p : ProgressState). p.kept ≡ []) mid.nodes 0 c.loop-place.place (length mid.nodes)
    (omega (arith, long, count, c.requires.count, c.nodes-place-end.ensures, c.loop-place-test.false)) c.loop-place.invariant.kept)
