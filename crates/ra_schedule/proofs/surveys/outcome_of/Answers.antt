use Rattle.std.proofs.Common.{Err, sym, subst, ap, ◌∙◌}
use Rattle.ra_schedule.specs.declared.choice.Policy.{Policy}
use Rattle.ra_schedule.specs.declared.error.DriveError.TheVariants.{TurnLimit}
use Rattle.ra_schedule.specs.declared.surveys.seed_outcomes.SeedOutcome.TheVariants.{Limit}
use Rattle.ra_schedule.specs.Survey.{IsOutcome}
use Rattle.ra_schedule.proofs.HandedOn.{ended_as}
use Rattle.ra_schedule.proofs.surveys.outcome_of.Goals as goal
use Rattle.ra_schedule.proofs.surveys.outcome_of.Goals.{then-summary, else-summary}

pub returns-in-Err-TurnLimit : goal.returns-in-Err-TurnLimit
returns-in-Err-TurnLimit c =
    subst (λ (policy : Policy). IsOutcome c.args.script.now policy c.args.limit Limit) c.chance.ensures
    (c.summarize.ensures.answers.refused TurnLimit (λ same. cc) (c.in-Err-TurnLimit.is ∙ ap Err c.in-Err-TurnLimit.field-0-is))

pub returns-in-Ok : goal.returns-in-Ok
returns-in-Ok c =
    let script = c.args.script.now in
    let policy = c.chance.result in
    subst (λ (policy : Policy). IsOutcome script policy c.args.limit c.if-summary.result) c.chance.ensures
    (elim c.if-summary.branch [
      | then-summary w ↦
          subst (IsOutcome script policy c.args.limit) (sym w.result-is)
          (ended_as script policy c.args.limit c.in-Ok.summary _ w.if-summary.true c.in-Ok.ensures.ok)
      | else-summary w ↦
          subst (IsOutcome script policy c.args.limit) (sym w.result-is)
          (ended_as script policy c.args.limit c.in-Ok.summary _ w.if-summary.false c.in-Ok.ensures.ok)
    ])
