-- proofs/text/state_lines/push_table/Answers.antt
use Rattle.std.proofs.Common.{◌≡◌, ◌+◌, ℕ, List, [], flat_map, take, ap, sym, refl, ◌∙◌}
use Rattle.std.specs.List.{range_with_len}
use Rattle.std.proofs.lemmas.List.{take_all}
use Rattle.ra_node.specs.Node.{NodeState, resource_at}
use Rattle.ra_node.specs.Resource.{use_of}
use Rattle.ra_world.specs.Keeping.{nodes_of}
use Rattle.ra_world.specs.StateLines.{table_line, table_lines_at}
use Rattle.ra_text.specs.Drafting.{Adds}
use Rattle.ra_text.proofs.Drafts.{adds_nothing, adds_as, adds_to, adds_both}
use Rattle.ra_world.proofs.StateTexts.{next_item, next_lines, node_at, use_waiting, use_holding, use_nobody}
use Rattle.ra_world.proofs.text.state_lines.push_table.Goals as goal
use Rattle.ra_world.proofs.text.state_lines.push_table.Goals.{in-Some, in_default+in-Some-holder, in_default+in_default-holder}

pub loop-place-init : goal.loop-place-init
loop-place-init c = adds_nothing

-- ---- The names at one node

pub loop-name-init : goal.loop-name-init
loop-name-init c = adds_nothing

pub loop-name-preserved : goal.loop-name-preserved
loop-name-preserved c =
    let names = c.args.names.now in
    let i = c.loop-name.name-index in
    let line = λ (name : List ℕ). table_line (use_of (resource_at c.index-nodes-place.result name)) in
    let adds : Adds c.loop-name.text (line c.name-item.result) c.match-waiter.text =
    elim c.match-waiter.branch [
      | in-Some w ↦ adds_to w.text-is (adds_as w.push_entry_line.ensures (ap table_line (sym (use_waiting _ _ (sym w.in-Some.ensures.value)))))
      | in_default+in-Some-holder w ↦
          adds_to w.text-is (adds_as w.push_entry_line-in-Some-holder.ensures (ap table_line (sym (use_holding _ _ (sym w.in-Some-holder.ensures.value)))))
      | in_default+in_default-holder w ↦
          adds_to w.text-is (adds_as adds_nothing (ap table_line (sym (use_nobody _ (sym w.in_default.ensures.value) (sym w.in_default-holder.ensures.value)))))
    ] in
    adds_as (adds_both c.loop-name.invariant adds)
    (next_item line [] (flat_map line (take i names)) _ names i c.name-item.result refl c.loop-name-test.true c.name-item.is refl)

-- ---- One node more

pub loop-place-preserved : goal.loop-place-preserved
loop-place-preserved c =
    let nodes = c.args.nodes.now in
    let names = c.args.names.now in
    let place = c.loop-place.place in
    let here : nodes_of nodes (place + 1) ≡ c.index-nodes-place.result = node_at nodes place c.index-nodes-place.result c.loop-place-test.true c.index-nodes-place.is in
    let all : take c.loop-name.name-index names ≡ names = take_all c.loop-name.name-index names c.loop-name-test.false in
    let lines = λ (i : ℕ). table_lines_at names (nodes_of nodes i) in
    adds_as (adds_both c.loop-place.invariant (adds_as c.loop-name.invariant
    (ap (λ (some : List (List ℕ)). table_lines_at some c.index-nodes-place.result) all ∙ ap (λ (state : NodeState). table_lines_at names state) (sym here))))
    (next_lines lines [] (flat_map lines (range_with_len 1 place)) _ place (place + 1) refl refl refl)
