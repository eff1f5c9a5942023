-- proofs/text/state_lines/push_messages/Answers.antt
use Rattle.std.proofs.Common.{◌≤◌, List, [], length, take, refl, sym, ap, arith}
use Rattle.std.proofs.lemmas.List.{take_all}
use Rattle.ra_stamp.specs.declared.message.Message.{Message}
use Rattle.ra_world.specs.StateLines.{message_lines}
use Rattle.ra_text.proofs.Drafts.{adds_nothing, adds_as, adds_both}
use Rattle.ra_world.proofs.StateTexts.{at_place, next_message, some_there}
use Rattle.ra_world.proofs.text.state_lines.push_messages.Goals as goal

pub loop-place-init : goal.loop-place-init
loop-place-init c = adds_nothing

pub loop-place-preserved : goal.loop-place-preserved
loop-place-preserved c =
    let items = c.args.under_way.now.items in
    let place = c.loop-place.place in
    let at = at_place items place c.in-Some.message (sym c.in-Some.ensures) in
    adds_as (adds_both c.loop-place.invariant
    (adds_both (adds_both (adds_both c.push.ensures c.push_number.ensures) c.push_message.ensures) c.end_line.ensures))
    (next_message [] (message_lines 0 (take place items)) _ items place c.in-Some.message refl at.0 at.1 refl)

pub returns : goal.returns
returns c =
    let items = c.args.under_way.now.items in
    let all : length items ≤ c.loop-place.place = omega (arith, c.len-place-end.ensures, c.loop-place-test.false, c.loop-place.auto.place-end) in
    adds_as c.loop-place.invariant (ap (λ (messages : List Message). message_lines 0 messages) (take_all c.loop-place.place items all))

pub unreachable-requires : goal.unreachable-requires
unreachable-requires c =
    let items = c.args.under_way.now.items in
    some_there items c.loop-place.place (omega (arith, c.len-place-end.ensures, c.loop-place-test.true, c.loop-place.auto.place-end)) (sym c.in_default.ensures)
