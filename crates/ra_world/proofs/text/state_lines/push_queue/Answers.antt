-- proofs/text/state_lines/push_queue/Answers.antt
use Rattle.std.proofs.Common.{◌≤◌, List, [], flat_map, length, take, refl, sym, ap, arith}
use Rattle.std.proofs.lemmas.List.{take_all}
use Rattle.ra_node.specs.declared.queued_client.Queued.{Queued}
use Rattle.ra_node.specs.Node.{resource_at}
use Rattle.ra_text.specs.Lines.{field}
use Rattle.ra_world.specs.StateLines.{queued_line}
use Rattle.ra_text.proofs.Drafts.{adds_nothing, adds_as, adds_both}
use Rattle.ra_world.proofs.StateTexts.{at_place, next_item, some_there}
use Rattle.ra_world.proofs.text.state_lines.push_queue.Goals as goal

pub loop-place-init : goal.loop-place-init
loop-place-init c = adds_nothing

pub loop-place-preserved : goal.loop-place-preserved
loop-place-preserved c =
    let name = c.args.name.now in
    let queue = (resource_at c.args.node.now name).queue in
    let place = c.loop-place.place in
    let line = queued_line c.args.me name in
    let at = at_place queue place c.in-Some.queued (sym c.in-Some.ensures.value) in
    adds_as (adds_both c.loop-place.invariant
    (adds_both (adds_both (adds_both c.push_at.ensures c.push_number.ensures) (adds_as c.push_field.ensures (ap field c.word.ensures))) c.end_line.ensures))
    (next_item line [] (flat_map line (take place queue)) _ queue place c.in-Some.queued refl at.0 at.1 refl)

pub returns : goal.returns
returns c =
    let name = c.args.name.now in
    let queue = (resource_at c.args.node.now name).queue in
    let all : length queue ≤ c.loop-place.place = omega (arith, c.queued_on-place-end.ensures.value, c.loop-place-test.false, c.loop-place.auto.place-end) in
    adds_as c.loop-place.invariant (ap (λ (clients : List Queued). flat_map (queued_line c.args.me name) clients) (take_all c.loop-place.place queue all))

pub unreachable-requires : goal.unreachable-requires
unreachable-requires c =
    let queue = (resource_at c.args.node.now c.args.name.now).queue in
    some_there queue c.loop-place.place (omega (arith, c.queued_on-place-end.ensures.value, c.loop-place-test.true, c.loop-place.auto.place-end)) (sym c.in_default.ensures.value)
