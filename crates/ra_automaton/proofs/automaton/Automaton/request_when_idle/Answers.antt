use Rattle.std.proofs.Common.{rules, subst, ap, ◌∙◌}
use Rattle.ra_automaton.specs.NodeSet.{nobody_of}
use Rattle.ra_automaton.specs.State.{State, IsConsistent}
use Rattle.ra_automaton.proofs.Consistent.{consistent_begins}
use Rattle.ra_automaton.proofs.automaton.Automaton.request_when_idle.Goals as goal

pub begin-entered-requires-clause-room : goal.begin-entered-requires-clause-room
begin-entered-requires-clause-room c = c.in_ok-room.ensures ∙ ap (λ (s : State). nobody_of s.nodes) c.self.view_is

pub returns-clause-requested : goal.returns-clause-requested
returns-clause-requested c =
    record {
      ok = record { idle = c.requires.idle; number_left = c.requires.number_left; sends_are = search rules; begins = c.begin-entered.ensures };
      err = tt;
    }

pub returns-clause-consistent : goal.returns-clause-consistent
returns-clause-consistent c =
    let old = subst IsConsistent c.self.view_is c.self.invariant.consistent in
    consistent_begins c.args.self.now c.args.mode c.begin-entered.result c.begin-entered.new.self old c.requires.idle c.begin-entered.ensures
