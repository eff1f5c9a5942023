use Rattle.std.proofs.Common.{arith, ◌≡◌, ℕ, ◌+◌, ◌++◌, ◌∷◌, [], List, map, ap, sym, ◌∙◌}
use Rattle.std.specs.List.{range_with_len}
use Rattle.std.proofs.lemmas.List.FromFn.{map-range_with_len_more}
use Rattle.ra_node.specs.Node.{NodeState, opening_node}
use Rattle.ra_world.proofs.world.node_places.opening_nodes.Goals as goal

pub loop-place-preserved : goal.loop-place-preserved
loop-place-preserved c =
    let before = c.loop-place.nodes.items in
    let at = λ (i : ℕ). opening_node i c.args.count c.args.start in
    c.in_ok-push.ensures.items
    ∙ ap (λ (n : NodeState). before ++ n ∷ []) (c.of-node.ensures.value ∙ λ i. opening_node (c.at.ensures i).node (c.at.ensures i).nodes c.args.start)
    ∙ ap (λ (ns : List NodeState). ns ++ at (c.loop-place.place + 1) ∷ []) c.loop-place.invariant
    ∙ sym (map-range_with_len_more at 1 c.loop-place.place (c.loop-place.place + 1) (omega arith))

pub loop-place-init : goal.loop-place-init
loop-place-init c = c.in_ok-nodes.ensures.items

pub returns : goal.returns
returns c =
    let all : c.loop-place.place ≡ c.args.count = omega (arith, c.get-place-end.ensures.value, c.loop-place-test.false, c.loop-place.auto.place-end) in
    c.loop-place.invariant ∙ ap (λ (n : ℕ). map (λ i. opening_node i c.args.count c.args.start) (range_with_len 1 n)) all
