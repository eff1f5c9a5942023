use Rattle.std.proofs.Common.{rules, subst, sym, ap, arith}
use Rattle.ra_stamp.specs.Member.{IsMember}
use Rattle.ra_automaton.specs.NodeSet.{Deferred}
use Rattle.ra_automaton.specs.State.{IsConsistent, opening}
use Rattle.ra_automaton.proofs.Opening.{opening_is_consistent}
use Rattle.ra_automaton.proofs.automaton.Automaton.of.Goals as goal

pub invariant_of-result : goal.invariant_of-result
invariant_of-result c =
    let m = c.args.member in
    let opened = opening m.node m.nodes c.args.name c.args.start in
    let is : IsMember m.node m.nodes = search rules in
    record {
      room = ap (λ (d : Deferred). d.room) c.none.ensures;
      consistent = subst IsConsistent (λ i. record opened { awaited = sym c.empty.ensures i; deferred = (sym c.none.ensures i).numbers })
          (opening_is_consistent m.node m.nodes c.args.name c.args.start is.count (is.first, omega (arith, is.last, is.count.1)) is.last);
    }

pub returns-clause-consistent : goal.returns-clause-consistent
returns-clause-consistent c = (invariant_of-result c).consistent
