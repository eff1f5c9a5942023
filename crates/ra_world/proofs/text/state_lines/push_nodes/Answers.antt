use Rattle.std.proofs.Common.{rules, ◌≡◌, ◌+◌, ℕ, List, [], length, flat_map, take, ap, sym, refl, ◌∙◌}
use Rattle.std.specs.Prelude.{decimal}
use Rattle.std.specs.List.{range_with_len}
use Rattle.std.proofs.lemmas.List.{take_all}
use Rattle.ra_node.specs.Node.{NodeState, resource_at}
use Rattle.ra_world.specs.Keeping.{nodes_of}
use Rattle.ra_text.specs.Lines.{field}
use Rattle.ra_world.specs.StateLines.{resource_lines, lines_at}
use Rattle.ra_text.proofs.Drafts.{adds_nothing, adds_as, adds_both}
use Rattle.ra_world.proofs.StateTexts.{next_item, next_lines, node_at}
use Rattle.ra_world.proofs.text.state_lines.push_nodes.Goals as goal

pub loop-place-init : goal.loop-place-init
loop-place-init c = adds_nothing

-- ---- The names at one node

pub loop-name-init : goal.loop-name-init
loop-name-init c = adds_nothing

pub loop-name-preserved : goal.loop-name-preserved
loop-name-preserved c =
    let names = c.args.names.now in
    let i = c.loop-name.name-index in
    let lines = λ (name : List ℕ). resource_lines c.in-Some.count c.at-me.result name (resource_at c.index-nodes-place.result name) in
    adds_as (adds_both c.loop-name.invariant
    (adds_both (adds_both
    (adds_both (adds_both (adds_both c.push_at.ensures (adds_as c.push_number.ensures (ap (λ (n : ℕ). field (decimal n)) c.highest.ensures.value))) c.push_use.ensures) c.end_line.ensures)
    c.push_others.ensures) c.push_queue.ensures))
    (next_item lines [] (flat_map lines (take i names)) _ names i c.name-item.result refl c.loop-name-test.true c.name-item.is refl)

-- ---- One node more

pub loop-place-preserved : goal.loop-place-preserved
loop-place-preserved c =
    let nodes = c.args.nodes.now in
    let names = c.args.names.now in
    let place = c.loop-place.place in
    let here : nodes_of nodes (place + 1) ≡ c.index-nodes-place.result = node_at nodes place c.index-nodes-place.result c.loop-place-test.true c.index-nodes-place.is in
    let same : c.in-Some.count ≡ length nodes = search rules in
    let all : take c.loop-name.name-index names ≡ names = take_all c.loop-name.name-index names c.loop-name-test.false in
    let lines = λ (i : ℕ). lines_at (length nodes) names i (nodes_of nodes i) in
    adds_as (adds_both c.loop-place.invariant (adds_as c.loop-name.invariant
    (ap (λ (some : List (List ℕ)). lines_at c.in-Some.count some c.at-me.result c.index-nodes-place.result) all
    ∙ ap (λ (n : ℕ). lines_at n names c.at-me.result c.index-nodes-place.result) same
    ∙ ap (λ (i : ℕ). lines_at (length nodes) names i c.index-nodes-place.result) c.at-me.ensures
    ∙ ap (λ (state : NodeState). lines_at (length nodes) names (place + 1) state) (sym here))))
    (next_lines lines [] (flat_map lines (range_with_len 1 place)) _ place (place + 1) refl refl refl)
