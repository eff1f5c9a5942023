use Rattle.std.proofs.Common.{length, ap, ◌∙◌}
use Rattle.ra_world.specs.Traffic.{sent_by, lost_by, repeated_by}
use Rattle.ra_world.specs.Quiet.{requests_in, withdrawn_in}
use Rattle.ra_world.specs.Run.{marks_of}
use Rattle.ra_world.specs.StepLog.{LogState}
use Rattle.ra_world.proofs.world.step_log.StepLog.counts.Goals as goal

pub returns-clause-sent : goal.returns-clause-sent
returns-clause-sent g c = c.self.invariant.sent_is ∙ ap (λ (s : LogState). length (sent_by s.moves)) c.self.view_is

pub returns-clause-requests : goal.returns-clause-requests
returns-clause-requests g c = c.self.invariant.requests_are ∙ ap (λ (s : LogState). requests_in (marks_of s.moves)) c.self.view_is

pub returns-clause-lost : goal.returns-clause-lost
returns-clause-lost g c = c.self.invariant.lost_are ∙ ap (λ (s : LogState). length (lost_by s.moves)) c.self.view_is

pub returns-clause-repeated : goal.returns-clause-repeated
returns-clause-repeated g c = c.self.invariant.repeated_are ∙ ap (λ (s : LogState). length (repeated_by s.moves)) c.self.view_is

pub returns-clause-withdrawn : goal.returns-clause-withdrawn
returns-clause-withdrawn g c = c.self.invariant.withdrawn_are ∙ ap (λ (s : LogState). withdrawn_in (marks_of s.moves)) c.self.view_is
