use Rattle.std.proofs.Common.{ap, ◌∙◌, length}
use Rattle.ra_world.specs.StepLog.{LogState}
use Rattle.ra_world.proofs.world.step_log.StepLog.len.Goals as goal

pub returns : goal.returns
returns g c = c.self.invariant.steps_are ∙ ap (λ (s : LogState). length s.moves) c.self.view_is
