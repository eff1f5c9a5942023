use Rattle.std.proofs.Common.{ap, ◌∙◌}
use Rattle.ra_world.specs.Run.{marks_of}
use Rattle.ra_world.specs.StepLog.{LogState}
use Rattle.ra_world.proofs.world.step_log.StepLog.into_marks.Goals as goal

pub returns : goal.returns
returns g c kept = c.self.invariant.marks_are kept ∙ ap (λ (s : LogState). marks_of s.moves) c.self.view_is
