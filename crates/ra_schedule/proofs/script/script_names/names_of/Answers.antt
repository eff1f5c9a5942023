use Rattle.std.proofs.Common.{◌+◌, ◌≤◌, arith, length, refl}
use Rattle.std.proofs.lemmas.Result.{IfOk-weaker}
use Rattle.ra_schedule.proofs.ScriptNames.{nobody_yet, next_client, are_names}
use Rattle.ra_schedule.proofs.script.script_names.names_of.Goals as goal

pub loop-place-init : goal.loop-place-init
loop-place-init c = nobody_yet c.args.script.now c.new-names.result.keys c.new-names.ensures.empty

pub loop-place-preserved : goal.loop-place-preserved
loop-place-preserved c =
    next_client c.args.script.now c.loop-place.place (c.loop-place.place + 1) c.loop-place.names.keys c.put_names.new.names.keys refl c.loop-place.invariant c.in_ok-put_names.ensures

pub returns : goal.returns
returns c =
    let script = c.args.script.now in
    let all : length script.clients ≤ c.loop-place.place = omega (arith, c.loop-place-test.false, c.clients-place-end.ensures.value) in
    IfOk-weaker c.in_order.result _ _
    (λ list is. are_names script c.loop-place.place c.loop-place.names.keys list.items all c.loop-place.invariant c.in_order.ensures.in_order is)
    c.in_order.ensures.list
