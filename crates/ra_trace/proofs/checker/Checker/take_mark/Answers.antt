use Rattle.std.proofs.Common.{refl, sym, ◌∙◌, arith, inl, inr}
use Rattle.std.proofs.lemmas.Bool.{false≢true}
use Rattle.ra_trace.specs.declared.checker.verdict.Cause.TheVariants.{Marks, Table}
use Rattle.ra_trace.proofs.MarkRefusals.{refused_is_not_allowed}
use Rattle.ra_trace.proofs.TraceLaws.{traces_rest_on_runs}
use Rattle.ra_trace.proofs.Taking.{mark_not_allowed, mark_is_taken, mark_is_not_last, table_refuses, wrong_mark, mark_comes_early, mark_may_come}
use Rattle.ra_trace.proofs.checker.Checker.take_mark.Goals as goal

pub returns-then-not-allows_mark-clause-judged : goal.returns-then-not-allows_mark-clause-judged
returns-then-not-allows_mark-clause-judged c = mark_not_allowed c.args.self.now c.args.mark.now (sym c.allows_mark.ensures ∙ c.if-not-allows_mark.true)

pub returns-then-has_unsent-clause-judged : goal.returns-then-has_unsent-clause-judged
returns-then-has_unsent-clause-judged c =
    mark_comes_early c.args.self.now c.args.mark.now (sym c.allows_mark.ensures ∙ c.if-not-allows_mark.false) (c.has_unsent.ensures.some c.if-has_unsent.true)

-- the lock table allows it, so it is wrong for the marks that are due
pub returns-then-allows-clause-judged : goal.returns-then-allows-clause-judged
returns-then-allows-clause-judged c =
    wrong_mark traces_rest_on_runs c.args.self.now c.args.mark.now Marks (sym c.allows_mark.ensures ∙ c.if-not-allows_mark.false) (c.has_unsent.ensures.none c.if-has_unsent.false)
    (c.is_due.ensures.other c.if-not-is_due.true) (inl (refl, c.allows.ensures.0 c.if-allows.true))

pub returns-then-not-is_due-clause-judged : goal.returns-then-not-is_due-clause-judged
returns-then-not-is_due-clause-judged c =
    wrong_mark traces_rest_on_runs c.args.self.now c.args.mark.now Table (sym c.allows_mark.ensures ∙ c.if-not-allows_mark.false) (c.has_unsent.ensures.none c.if-has_unsent.false)
    (c.is_due.ensures.other c.if-not-is_due.true) (inr (refl, λ allowed. false≢true (sym c.if-allows.false ∙ c.allows.ensures.1 allowed)))

pub returns-in-Some-clause-judged : goal.returns-in-Some-clause-judged
returns-in-Some-clause-judged c =
    table_refuses traces_rest_on_runs c.args.self.now c.args.mark.now (sym c.allows_mark.ensures ∙ c.if-not-allows_mark.false) (c.has_unsent.ensures.none c.if-has_unsent.false)
    (refused_is_not_allowed c.args.self.now.table c.args.mark.now _ (rw c.in-Some.is at c.in-Ok.ensures.tries))

pub returns-in-Err-clause-judged : goal.returns-in-Err-clause-judged
returns-in-Err-clause-judged c = (
  c.in-Err.ensures.tries.0,
  mark_may_come c.args.self.now c.args.mark.now _ (sym c.allows_mark.ensures ∙ c.if-not-allows_mark.false) (c.has_unsent.ensures.none c.if-has_unsent.false)
      (c.is_due.ensures.next c.if-not-is_due.false),
)

pub overflow_add-self : goal.overflow_add-self
overflow_add-self c = omega (arith, c.is_due.ensures.fits c.if-not-is_due.false)

pub returns-in-None-clause-judged : goal.returns-in-None-clause-judged
returns-in-None-clause-judged c = (
  mark_is_not_last c.args.mark.now,
  mark_is_taken traces_rest_on_runs c.args.self.now c.args.mark.now c.try_mark.new.table
      (sym c.allows_mark.ensures ∙ c.if-not-allows_mark.false) (rw c.in-None.is at c.in-Ok.ensures.tries) (c.has_unsent.ensures.none c.if-has_unsent.false) (c.is_due.ensures.next c.if-not-is_due.false),
)
