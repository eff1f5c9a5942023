use Rattle.std.proofs.Common.{subst}
use Rattle.ra_automaton.specs.State.{IsConsistent}
use Rattle.ra_automaton.specs.View.{state_of}
use Rattle.ra_automaton.proofs.Consistent.{told_inside, told_outside}
use Rattle.ra_automaton.proofs.automaton.Automaton.is_inside.Goals as goal

pub returns-in-Inside-clause-value : goal.returns-in-Inside-clause-value
returns-in-Inside-clause-value c = told_inside (state_of c.self.inside) c.args.self.now _ _ c.self.view_is c.in-Inside.is

pub returns-in-Inside-clause-consistent : goal.returns-in-Inside-clause-consistent
returns-in-Inside-clause-consistent c = subst IsConsistent c.self.view_is c.self.invariant.consistent

pub returns-in_default-clause-value : goal.returns-in_default-clause-value
returns-in_default-clause-value c = told_outside (state_of c.self.inside) c.args.self.now c.self.view_is c.in_default.not-Inside

pub returns-in_default-clause-consistent : goal.returns-in_default-clause-consistent
returns-in_default-clause-consistent c = subst IsConsistent c.self.view_is c.self.invariant.consistent
