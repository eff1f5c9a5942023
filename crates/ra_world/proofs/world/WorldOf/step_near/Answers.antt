use Rattle.std.proofs.Common.{sym, subst}
use Rattle.ra_world.specs.declared.step.Step.{Step}
use Rattle.ra_world.specs.Keeping.{Tries}
use Rattle.ra_world.proofs.StepAnswers.{kept_run, answers}
use Rattle.ra_world.proofs.WorldLaws.{no_step, one_cause}
use Rattle.ra_world.proofs.world.WorldOf.step_near.Goals as goal

pub returns-in-Ask : goal.returns-in-Ask
returns-in-Ask g c =
    let w = c.self.inside in
    answers no_step one_cause c.args.self.now c.ask.new.self c.args.step.now
    (kept_run w.start w.nodes.items w.kept.under_way.items w.kept.log.moves c.args.self.now c.self.invariant c.self.view_is) c.ask.ensures.run
    c.ask.result (subst (λ (s : Step). Tries c.args.self.now s c.ask.result c.ask.new.self) (sym c.in-Ask.is) c.ask.ensures.tried) c.ask.ensures.count

pub returns-in-Leave : goal.returns-in-Leave
returns-in-Leave g c =
    let w = c.self.inside in
    answers no_step one_cause c.args.self.now c.leave.new.self c.args.step.now
    (kept_run w.start w.nodes.items w.kept.under_way.items w.kept.log.moves c.args.self.now c.self.invariant c.self.view_is) c.leave.ensures.run
    c.leave.result (subst (λ (s : Step). Tries c.args.self.now s c.leave.result c.leave.new.self) (sym c.in-Leave.is) c.leave.ensures.tried) c.leave.ensures.count

pub returns-in-Cancel : goal.returns-in-Cancel
returns-in-Cancel g c =
    let w = c.self.inside in
    answers no_step one_cause c.args.self.now c.cancel.new.self c.args.step.now
    (kept_run w.start w.nodes.items w.kept.under_way.items w.kept.log.moves c.args.self.now c.self.invariant c.self.view_is) c.cancel.ensures.run
    c.cancel.result (subst (λ (s : Step). Tries c.args.self.now s c.cancel.result c.cancel.new.self) (sym c.in-Cancel.is) c.cancel.ensures.tried) c.cancel.ensures.count

pub returns-in-Deliver : goal.returns-in-Deliver
returns-in-Deliver g c =
    let w = c.self.inside in
    answers no_step one_cause c.args.self.now c.deliver.new.self c.args.step.now
    (kept_run w.start w.nodes.items w.kept.under_way.items w.kept.log.moves c.args.self.now c.self.invariant c.self.view_is) c.deliver.ensures.run
    c.deliver.result (subst (λ (s : Step). Tries c.args.self.now s c.deliver.result c.deliver.new.self) (sym c.in-Deliver.is) c.deliver.ensures.tried) c.deliver.ensures.count

pub returns-in-Lose : goal.returns-in-Lose
returns-in-Lose g c =
    let w = c.self.inside in
    answers no_step one_cause c.args.self.now c.lose.new.self c.args.step.now
    (kept_run w.start w.nodes.items w.kept.under_way.items w.kept.log.moves c.args.self.now c.self.invariant c.self.view_is) c.lose.ensures.run
    c.lose.result (subst (λ (s : Step). Tries c.args.self.now s c.lose.result c.lose.new.self) (sym c.in-Lose.is) c.lose.ensures.tried) c.lose.ensures.count

pub returns-in-Repeat : goal.returns-in-Repeat
returns-in-Repeat g c =
    let w = c.self.inside in
    answers no_step one_cause c.args.self.now c.repeat.new.self c.args.step.now
    (kept_run w.start w.nodes.items w.kept.under_way.items w.kept.log.moves c.args.self.now c.self.invariant c.self.view_is) c.repeat.ensures.run
    c.repeat.result (subst (λ (s : Step). Tries c.args.self.now s c.repeat.result c.repeat.new.self) (sym c.in-Repeat.is) c.repeat.ensures.tried) c.repeat.ensures.count

pub returns-in-Forget : goal.returns-in-Forget
returns-in-Forget g c =
    let w = c.self.inside in
    answers no_step one_cause c.args.self.now c.forget.new.self c.args.step.now
    (kept_run w.start w.nodes.items w.kept.under_way.items w.kept.log.moves c.args.self.now c.self.invariant c.self.view_is) c.forget.ensures.run
    c.forget.result (subst (λ (s : Step). Tries c.args.self.now s c.forget.result c.forget.new.self) (sym c.in-Forget.is) c.forget.ensures.tried) c.forget.ensures.count
