use Rattle.std.proofs.Common.{◌≡◌, ◌≤◌, length, set, ap, ◌∙◌, subst, sym, arith}
use Rattle.std.proofs.lemmas.List.{length-set}
use Rattle.std.specs.Ordering.{nat_cmp}
use Rattle.std.specs.FinSet as finset
use Rattle.std.specs.FinMap as finmap
use Rattle.ra_automaton.specs.NodeSet.{Deferred, map_of}
use Rattle.ra_automaton.proofs.DeferredLemmas.{HavePlaces, map_of-insert, insert_within}
use Rattle.ra_automaton.proofs.deferrals.Deferrals.insert.Goals as goal

pub invariant_of-self : goal.invariant_of-self
invariant_of-self c =
    let d = c.self.inside in
    let node = c.args.node in
    let same = length-set d.numbers.items c.place.result c.args.number in
    let room = ap (λ (was : Deferred). was.room) c.self.view_is in
    let high : node ≤ length d.numbers.items = omega (arith, c.requires, room) in
    record {
      few = omega (arith, same, c.self.invariant.few);
      within = subst (λ (nodes : finset.FinSet nat_cmp). HavePlaces nodes (length (set d.numbers.items c.place.result c.args.number))) (sym c.insert.ensures)
          (subst (HavePlaces (finset.insert d.nodes node)) (sym same) (insert_within d.nodes node (length d.numbers.items) c.place.ensures.valid.0 high c.self.invariant.within));
    }

pub returns : goal.returns
returns c =
    let d = c.self.inside in
    let node = c.args.node in
    let number = c.args.number in
    let same = length-set d.numbers.items c.place.result number in
    let room = ap (λ (was : Deferred). was.room) c.self.view_is in
    let high : node ≤ length d.numbers.items = omega (arith, c.requires, room) in
    let put : map_of c.insert.new.self (set d.numbers.items c.place.result number) ≡ finmap.insert (map_of d.nodes d.numbers.items) node number =
    rw (c.insert.ensures, c.place.ensures.value) (map_of-insert d.nodes d.numbers.items node number c.place.ensures.valid.0 high c.self.invariant.within) in
    (λ i. record { numbers = put i; room = same i })
    ∙ ap (λ (was : Deferred). record { numbers = finmap.insert was.numbers node number; room = was.room }) c.self.view_is
