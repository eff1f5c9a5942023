use Rattle.std.proofs.Common.{subst}
use Rattle.ra_automaton.specs.State.{IsConsistent}
use Rattle.ra_automaton.proofs.automaton.Automaton.request.Goals as goal

-- ---- It is refused, and nothing changes

pub returns-then-ne-clause-consistent : goal.returns-then-ne-clause-consistent
returns-then-ne-clause-consistent c = subst IsConsistent c.self.view_is c.self.invariant.consistent

pub returns-then-self-clause-consistent : goal.returns-then-self-clause-consistent
returns-then-self-clause-consistent c = subst IsConsistent c.self.view_is c.self.invariant.consistent
