use Rattle.std.proofs.Common.{◌≡◌, ◌≢◌, ◌⊎◌, [], Option, Some, None, Err, true, refl, sym, ap, subst, ◌∙◌, inl, inr}
use Rattle.std.specs.Prelude.{IfSome, IsNone}
use Rattle.ra_world.specs.declared.error.NodeRefusal.{NodeRefusal}
use Rattle.ra_world.specs.declared.error.StepError.TheVariants.{NoNode, NotUnderWay, Node, Memory}
use Rattle.ra_trace.specs.declared.checker.Checker.{Checker}
use Rattle.ra_trace.specs.declared.checker.verdict.Cause.{Cause}
use Rattle.ra_trace.specs.declared.checker.verdict.Cause.TheVariants.{Sends, Marks}
use Rattle.ra_trace.specs.Checking.{all_due, due_of, unsent_of}
use Rattle.ra_trace.specs.Forms.{allows_step}
use Rattle.ra_trace.specs.Verdict.{marks_due}
use Rattle.ra_trace.proofs.Taking.{ComesEarly, step_is_not_last, step_not_allowed, step_comes_early, first_comes_again, step_is_taken, step_is_refused, step_is_not_under_way, step_may_come, no_node_is_of_client, node_is_of_client, not_under_way_is_of_message}
use Rattle.ra_trace.proofs.checker.Checker.take.Goals as goal

-- none of these is that memory ran out
not_under_way_is_no_memory : NotUnderWay ≡ Memory → ⊥
not_under_way_is_no_memory e = cc

no_node_is_no_memory : NoNode ≡ Memory → ⊥
no_node_is_no_memory e = cc

node_is_no_memory : (refusal : NodeRefusal) → Node refusal ≡ Memory → ⊥
node_is_no_memory refusal e = cc

none_found : {X : Type 0} (found : Option X) → ((x : X) → found ≡ Some x → ⊥) → IsNone found
none_found None other = refl
none_found (Some x) other = absurd (other x refl)

pub returns-then-not-allows_step-clause-judged : goal.returns-then-not-allows_step-clause-judged
returns-then-not-allows_step-clause-judged c =
    rw c.in-Stepped.is (step_not_allowed c.args.self.now c.in-Stepped.step (sym c.allows_step.ensures ∙ c.if-not-allows_step.true))

pub returns-in-Ok-clause-judged : goal.returns-in-Ok-clause-judged
returns-in-Ok-clause-judged c =
    let step = c.in-Stepped.step in
    let allowed : allows_step c.args.self.now.version step ≡ true = sym c.allows_step.ensures ∙ c.if-not-allows_step.false in
    rw c.in-Stepped.is (
      step_is_not_last step,
      step_is_taken c.args.self.now step c.in-Ok.outcome.sends c.in-Ok.outcome.marks c.step_near.new.self
          (c.early.ensures.none (none_found c.early.result c.in_default.not-Some)) c.in-Ok.ensures.ok c.in-Ok.ensures.run allowed,
    )

pub returns-in-Err-NotUnderWay-clause-judged : goal.returns-in-Err-NotUnderWay-clause-judged
returns-in-Err-NotUnderWay-clause-judged c =
    let step = c.in-Stepped.step in
    let allowed : allows_step c.args.self.now.version step ≡ true = sym c.allows_step.ensures ∙ c.if-not-allows_step.false in
    let w = c.args.self.now.world in
    let arm = c.in-Err-NotUnderWay in
    let not_memory : NotUnderWay ≢ Memory = not_under_way_is_no_memory in
    let because = (arm.ensures.refused NotUnderWay not_memory).0 (ap Err arm.field-0-is) in
    rw c.in-Stepped.is
    (step_is_not_under_way c.args.self.now step allowed (c.early.ensures.none (none_found c.early.result c.in_default.not-Some))
    (not_under_way_is_of_message w.count w.start w.moves step because)
    (λ goes. not_memory (sym arm.field-0-is ∙ arm.ensures.allowed.1 goes)))

pub returns-in-Err-NoNode-clause-judged : goal.returns-in-Err-NoNode-clause-judged
returns-in-Err-NoNode-clause-judged c =
    let step = c.in-Stepped.step in
    let allowed : allows_step c.args.self.now.version step ≡ true = sym c.allows_step.ensures ∙ c.if-not-allows_step.false in
    let w = c.args.self.now.world in
    let arm = c.in-Err-NoNode in
    let not_memory : NoNode ≢ Memory = no_node_is_no_memory in
    let because = (arm.ensures.refused NoNode not_memory).0 (ap Err arm.field-0-is) in
    rw c.in-Stepped.is
    (step_is_refused c.args.self.now step allowed (c.early.ensures.none (none_found c.early.result c.in_default.not-Some))
    (no_node_is_of_client w.count w.start w.moves step because)
    (λ goes. not_memory (sym arm.field-0-is ∙ arm.ensures.allowed.1 goes)))

pub returns-in-Err-Node-clause-judged : goal.returns-in-Err-Node-clause-judged
returns-in-Err-Node-clause-judged c =
    let step = c.in-Stepped.step in
    let allowed : allows_step c.args.self.now.version step ≡ true = sym c.allows_step.ensures ∙ c.if-not-allows_step.false in
    let w = c.args.self.now.world in
    let arm = c.in-Err-Node in
    let not_memory : Node arm.field-0-0 ≢ Memory = node_is_no_memory arm.field-0-0 in
    let because = (arm.ensures.refused (Node arm.field-0-0) not_memory).0 (ap Err arm.field-0-is) in
    rw c.in-Stepped.is
    (step_is_refused c.args.self.now step allowed (c.early.ensures.none (none_found c.early.result c.in_default.not-Some))
    (node_is_of_client w.count w.start w.moves step arm.field-0-0 because)
    (λ goes. not_memory (sym arm.field-0-is ∙ arm.ensures.allowed.1 goes)))

pub returns-in-Err-Memory-clause-judged : goal.returns-in-Err-Memory-clause-judged
returns-in-Err-Memory-clause-judged c =
    let step = c.in-Stepped.step in
    let allowed : allows_step c.args.self.now.version step ≡ true = sym c.allows_step.ensures ∙ c.if-not-allows_step.false in
    let arm = c.in-Err-Memory in
    rw c.in-Stepped.is (
      refl,
      step_may_come c.args.self.now step allowed (c.early.ensures.none (none_found c.early.result c.in_default.not-Some)) (arm.ensures.allowed.0 arm.field-0-is),
    )

pub returns-in-First-clause-judged : goal.returns-in-First-clause-judged
returns-in-First-clause-judged c = rw c.in-First.is (first_comes_again c.args.self.now _ _ _)

-- ---- Something is due

-- why nothing may come yet
why_early : (checker : Checker) (found : Option Cause) (why : Cause) → found ≡ Some why
    → (found ≡ Some Sends → unsent_of checker ≢ []) → (found ≡ Some Marks → (all_due checker ≡ marks_due (due_of checker)) × (due_of checker ≢ []))
    → IfSome found (λ cause. (cause ≡ Sends) ⊎ (cause ≡ Marks)) → ComesEarly checker why
why_early checker None why is sends marks which = absurd cc
why_early checker (Some cause) why is sends marks which =
    let same : cause ≡ why = cc in
    subst (ComesEarly checker) same (elim which [
      | inl of_sends ↦ inl (of_sends, sends (ap Some of_sends))
      | inr of_marks ↦ let due = marks (ap Some of_marks) in inr (of_marks, due.0, due.1)
    ])

pub returns-in-Some-clause-judged : goal.returns-in-Some-clause-judged
returns-in-Some-clause-judged c =
    let step = c.in-Stepped.step in
    let allowed : allows_step c.args.self.now.version step ≡ true = sym c.allows_step.ensures ∙ c.if-not-allows_step.false in
    let early = c.early.ensures in
    rw c.in-Stepped.is (step_comes_early c.args.self.now step c.in-Some.cause allowed
    (why_early c.args.self.now c.early.result c.in-Some.cause c.in-Some.is early.sends early.marks early.cause))
