use Rattle.std.proofs.Common.{◌≡◌, ℕ, [], ◌++◌, Result, Err, ap, sym, ◌∙◌, subst, inr}
use Rattle.std.proofs.lemmas.Result.{err_from_is_err_and}
use Rattle.std.proofs.lemmas.List.{append-nil}
use Rattle.ra_site.specs.declared.site.take_error.TakeError.{TakeError}
use Rattle.ra_site.specs.Handing.{IsLeftOfBook}
use Rattle.ra_site.specs.Sites.{SiteState}
use Rattle.ra_book.specs.History.{clock_of}
use Rattle.ra_audit.specs.Audit.{ProgressState, TakesOver, handed_over}
use Rattle.ra_audit.specs.AuditKeeping.{LossState}
use Rattle.ra_audit.proofs.AuditRounds.{refuses_kept, took_kept, took_no_more, asked_after, turn_or_memory}
use Rattle.ra_audit.proofs.auditor.node_progress.NodeProgress.take_handed.Goals as goal

pub returns-in_err-take_kept-clause-takes : goal.returns-in_err-take_kept-clause-takes
returns-in_err-take_kept-clause-takes r c =
    let p = err_from_is_err_and c.from_residual.result c.from_residual.ensures.1 in
    let is : c.from_residual.result ≡ Err c.in_err-take_kept.field-0.0 = p.1 ∙ ap (λ (e : TakeError). Err e) p.2 in (
      [],
      subst (λ (a : Result (Unit {0}) TakeError). TakesOver c.args.self.now c.take_kept.new.self [] a) (sym is)
          (refuses_kept c.args.self.now c.take_kept.new.self c.in_err-take_kept.field-0.0 c.in_err-take_kept.ensures.err c.in_err-take_kept.ensures.not_next
          c.in_err-take_kept.ensures.memory c.in_err-take_kept.ensures.others),
      sym (append-nil c.args.losses.now.losing),
    )

pub returns-in_err-take_noted-clause-takes : goal.returns-in_err-take_noted-clause-takes
returns-in_err-take_noted-clause-takes r c =
    let p = err_from_is_err_and c.from_residual-in_err-take_noted.result c.from_residual-in_err-take_noted.ensures.1 in (
      [],
      subst (λ (a : Result (Unit {0}) TakeError). TakesOver c.args.self.now c.take_kept.new.self [] a) (sym p.1)
          (took_no_more c.args.self.now c.take_kept.new.self c.in_ok-take_kept.ensures.ok p.0 (inr p.2)),
      ap (λ (l : LossState). l.losing) c.in_err-take_noted.ensures.err ∙ sym (append-nil c.args.losses.now.losing),
    )

pub returns-clause-takes : goal.returns-clause-takes
returns-clause-takes r c = (
  c.in_ok-handed.handed.lost.items,
  took_kept c.args.self.now c.take_kept.new.self c.in_ok-take_kept.ensures.ok c.accept.new.self c.in_ok-handed.handed.lost.items c.accept.result c.accept.ensures.takes,
  c.accept.ensures.losing ∙ ap (λ (l : LossState). l.losing ++ c.in_ok-handed.handed.lost.items) c.in_ok-take_noted.ensures.ok,
)

pub returns-in_err-handed-clause-takes : goal.returns-in_err-handed-clause-takes
returns-in_err-handed-clause-takes r c =
    let e = c.in_err-handed.field-0.0 in
    let others = c.in_err-handed.ensures.others in
    let p = err_from_is_err_and c.from_residual-in_err-handed.result c.from_residual-in_err-handed.ensures.1 in
    let is : c.from_residual-in_err-handed.result ≡ Err e = p.1 ∙ ap (λ (x : TakeError). Err x) p.2 in (
      [],
      subst (λ (a : Result (Unit {0}) TakeError). TakesOver c.args.self.now c.take_kept.new.self [] a) (sym is)
          (took_no_more c.args.self.now c.take_kept.new.self c.in_ok-take_kept.ensures.ok e (turn_or_memory e others.0 others.1)),
      ap (λ (l : LossState). l.losing) c.in_ok-take_noted.ensures.ok ∙ sym (append-nil c.args.losses.now.losing),
    )

-- the site was asked after the clock of what was taken
pub accept-requires-clause-handing : goal.accept-requires-clause-handing
accept-requires-clause-handing r c =
    let p = c.args.self.now in
    let q = c.take_kept.new.self in
    let is = c.in_ok-take_kept.ensures.ok in
    let events = c.in_ok-handed.handed.events.items in
    let lost = c.in_ok-handed.handed.lost.items in
    let node : c.args.site.now.node ≡ q.node = ap (λ (s : SiteState). s.node) c.requires ∙ sym (ap (λ (x : ProgressState). x.node) is) in
    let left = c.in_ok-handed.ensures.handed.audited (ap (λ (s : SiteState). s.audited) c.requires) in
    subst (λ (n : ℕ). IsLeftOfBook n (clock_of (handed_over q)) events lost) node
    (subst (λ (k : ℕ). IsLeftOfBook c.args.site.now.node k events lost) (asked_after p q is c.latest.result c.latest.ensures) left)
