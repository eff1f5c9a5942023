use Rattle.std.proofs.Common.{List, sym, subst}
use Rattle.std.proofs.lemmas.Bool.{false≢true}
use Rattle.ra_schedule.specs.declared.driver.client_progress.Progress.{Progress}
use Rattle.ra_schedule.specs.Progress.{Tracks}
use Rattle.ra_schedule.proofs.Replayed.{as_long, still_shorter}
use Rattle.ra_schedule.proofs.driver.replaying.replay.Goals as goal

pub returns-then-steps-limit-clause-shorter : goal.returns-then-steps-limit-clause-shorter
returns-then-steps-limit-clause-shorter c = (
  λ shorter. absurd (false≢true shorter),
  λ why. absurd (as_long _ c.steps.result c.args.limit c.steps.ensures.value c.if-steps-limit.true why.0),
)

pub is_stuck-requires : goal.is_stuck-requires
is_stuck-requires c =
    subst (λ (list : List Progress). Tracks c.args.script.now c.go_on.new.world list) (sym c.deref.ensures.value) c.in_ok-go_on.ensures.replay.driven.tracks

pub returns-clause-shorter : goal.returns-clause-shorter
returns-clause-shorter c = (
  λ stuck. (still_shorter _ c.steps.result c.args.limit c.steps.ensures.value c.if-steps-limit.false, c.is_stuck.ensures.0 stuck),
  λ why. c.is_stuck.ensures.1 why.1,
)
