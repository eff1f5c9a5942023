use Rattle.std.proofs.Common.{subst}
use Rattle.ra_automaton.specs.State.{IsConsistent}
use Rattle.ra_automaton.proofs.automaton.Automaton.waits_for.Goals as goal

pub returns-clause-consistent : goal.returns-clause-consistent
returns-clause-consistent c = subst IsConsistent c.self.view_is c.self.invariant.consistent
