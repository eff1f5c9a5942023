use Rattle.std.proofs.Common.{◌≡◌, sym, ap, ◌∙◌}
use Rattle.std.proofs.lemmas.Bool.{false≢true, true≢false}
use Rattle.ra_schedule.specs.Schedule.{step_of}
use Rattle.ra_schedule.proofs.LookedAt.{no_client, no_op, enables, refused}
use Rattle.ra_schedule.proofs.choice.picking.enabled_step.Goals as goal
use Rattle.ra_schedule.proofs.choice.picking.enabled_step.Goals.{in-Lock, in-Unlock}

pub returns-then-progress-clause-none : goal.returns-then-progress-clause-none
returns-then-progress-clause-none c none enabled = enabled.1.free (c.requires.progress.waiting.0 c.if-progress.true)

pub returns-in_err-node-clause-none : goal.returns-in_err-node-clause-none
returns-in_err-node-clause-none c none enabled =
    let next = enabled.1.next in
    no_client _ next.0 c.in_err-node.ensures.value next.2

pub returns-in_err-op-clause-none : goal.returns-in_err-op-clause-none
returns-in_err-op-clause-none c none enabled =
    let next = enabled.1.next in
    no_op c.args.script.now c.args.client c.args.progress.done _ next.0 next.1 c.in_err-op.ensures.value c.requires.progress.done next.2 next.3

pub returns-in_err-node-clause-some : goal.returns-in_err-node-clause-some
returns-in_err-node-clause-some c = rw c.from_residual.ensures tt

pub returns-in_err-op-clause-some : goal.returns-in_err-op-clause-some
returns-in_err-op-clause-some c = rw c.from_residual-in_err-op.ensures tt

pub returns-then-accepts-clause-some : goal.returns-then-accepts-clause-some
returns-then-accepts-clause-some c =
    let made : c.match-op.step ≡ step_of c.in_ok-node.node c.args.client c.in_ok-op.op =
    elim c.match-op.branch [
      | in-Lock w ↦ w.step-is ∙ sym (ap (step_of c.in_ok-node.node c.args.client) w.in-Lock.is)
      | in-Unlock w ↦ w.step-is ∙ sym (ap (step_of c.in_ok-node.node c.args.client) w.in-Unlock.is)
    ] in
    enables c.args.script.now c.args.world.now c.args.client c.args.progress c.in_ok-node.node c.in_ok-op.op c.match-op.step
    c.requires.count c.requires.start c.requires.progress
    c.if-progress.false c.in_ok-node.ensures.value c.in_ok-op.ensures.value made (c.accepts.ensures.value.0 c.if-accepts.true)

pub returns-then-accepts-clause-none : goal.returns-then-accepts-clause-none
returns-then-accepts-clause-none c none enabled = true≢false none

pub returns-else-accepts-clause-some : goal.returns-else-accepts-clause-some
returns-else-accepts-clause-some c = tt

pub returns-else-accepts-clause-none : goal.returns-else-accepts-clause-none
returns-else-accepts-clause-none c none enabled =
    let made : c.match-op.step ≡ step_of c.in_ok-node.node c.args.client c.in_ok-op.op =
    elim c.match-op.branch [
      | in-Lock w ↦ w.step-is ∙ sym (ap (step_of c.in_ok-node.node c.args.client) w.in-Lock.is)
      | in-Unlock w ↦ w.step-is ∙ sym (ap (step_of c.in_ok-node.node c.args.client) w.in-Unlock.is)
    ] in
    refused c.args.script.now c.args.world.now c.args.client c.args.progress c.in_ok-node.node c.in_ok-op.op c.match-op.step
    c.requires.count c.requires.start c.requires.progress c.in_ok-node.ensures.value c.in_ok-op.ensures.value made
    (λ goes_on. false≢true (sym c.if-accepts.false ∙ c.accepts.ensures.value.1 goes_on)) enabled
