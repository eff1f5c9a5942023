use Rattle.std.proofs.Common.{ap, ◌∙◌, subst}
use Rattle.ra_stamp.specs.NodeId.{IsNodeNumber}
use Rattle.ra_world.specs.Quiet.{requests_in}
use Rattle.ra_world.specs.Run.{IsRun, marks_of}
use Rattle.ra_world.specs.World.{WorldState}
use Rattle.ra_world.proofs.world.WorldOf.requests.Goals as goal

pub returns-clause-value : goal.returns-clause-value
returns-clause-value g c = c.counts.ensures.requests ∙ ap (λ (s : WorldState). requests_in (marks_of s.moves)) c.self.view_is

pub returns-clause-run : goal.returns-clause-run
returns-clause-run g c = subst (λ (s : WorldState). IsRun s.count s.start s.moves) c.self.view_is c.self.invariant.run

pub returns-clause-count : goal.returns-clause-count
returns-clause-count g c = subst (λ (s : WorldState). IsNodeNumber s.count) c.self.view_is c.self.invariant.count
