use Rattle.std.proofs.Common.{◌≡◌, ℕ, ◌-◌, ◌<◌, true, false, cond, length, get_or, Some, None, sym, ap, ◌∙◌, arith}
use Rattle.std.proofs.lemmas.List.{get_or_default}
use Rattle.std.specs.FinSet as set
use Rattle.std.specs.FinMap as finmap
use Rattle.ra_automaton.specs.NodeSet.{Deferred}
use Rattle.ra_automaton.proofs.DeferredLemmas.{get-map_of}
use Rattle.ra_automaton.proofs.deferrals.Deferrals.get.Goals as goal

pub returns-then-contains : goal.returns-then-contains
returns-then-contains c =
    let d = c.self.inside in
    let node = c.args.node in
    let there : set.contains d.nodes node ≡ true = sym c.contains.ensures ∙ c.if-contains.true in
    let within : c.place.result < length d.numbers.items = omega (arith, (c.self.invariant.within node there).1, c.place.ensures.value, c.place.ensures.valid.0) in
    let number : c.index.result.now ≡ get_or d.numbers.items (node - 1) 0 =
    c.index.ensures ∙ (get_or_default d.numbers.items c.place.result c.index.result.now 0 within ∙ ap (λ (i : ℕ). get_or d.numbers.items i 0) c.place.ensures.value) in
    ap (λ (n : ℕ). Some n) number
    ∙ sym (ap (λ (is : Deferred). finmap.get is.numbers node) (sym c.self.view_is)
    ∙ (get-map_of d.nodes d.numbers.items node c.self.invariant.within ∙ ap (λ b. cond b (Some (get_or d.numbers.items (node - 1) 0)) None) there))

pub returns-else-contains : goal.returns-else-contains
returns-else-contains c =
    let d = c.self.inside in
    let node = c.args.node in
    let absent : set.contains d.nodes node ≡ false = sym c.contains.ensures ∙ c.if-contains.false in
    sym (ap (λ (is : Deferred). finmap.get is.numbers node) (sym c.self.view_is)
    ∙ (get-map_of d.nodes d.numbers.items node c.self.invariant.within ∙ ap (λ b. cond b (Some (get_or d.numbers.items (node - 1) 0)) None) absent))
