use Rattle.std.proofs.Common.{arith, ap, inl}
use Rattle.std.proofs.lemmas.Result.{on_err_weaker}
use Rattle.ra_world.specs.StepLog.{LogState}
use Rattle.ra_world.proofs.world.step_log.StepLog.reserve.Goals as goal

pub returns-clause-same : goal.returns-clause-same
returns-clause-same g c = ap (λ (s : LogState). s.moves) c.self.view_is

pub returns-clause-err : goal.returns-clause-err
returns-clause-err g c = on_err_weaker c.reserve.result (λ _. inl (omega (arith, c.if-marks-eq0.false))) c.reserve.ensures.err
