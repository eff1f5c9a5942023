use Rattle.std.proofs.Common.{subst}
use Rattle.ra_automaton.specs.State.{IsConsistent}
use Rattle.ra_automaton.specs.View.{state_of}
use Rattle.ra_automaton.proofs.Consistent.{told_waiting, told_not_waiting}
use Rattle.ra_automaton.proofs.automaton.Automaton.is_waiting.Goals as goal

pub returns-in-Waiting-clause-value : goal.returns-in-Waiting-clause-value
returns-in-Waiting-clause-value c = told_waiting (state_of c.self.inside) c.args.self.now _ _ c.self.view_is c.in-Waiting.is

pub returns-in-Waiting-clause-consistent : goal.returns-in-Waiting-clause-consistent
returns-in-Waiting-clause-consistent c = subst IsConsistent c.self.view_is c.self.invariant.consistent

pub returns-in_default-clause-value : goal.returns-in_default-clause-value
returns-in_default-clause-value c = told_not_waiting (state_of c.self.inside) c.args.self.now c.self.view_is c.in_default.not-Waiting

pub returns-in_default-clause-consistent : goal.returns-in_default-clause-consistent
returns-in_default-clause-consistent c = subst IsConsistent c.self.view_is c.self.invariant.consistent
