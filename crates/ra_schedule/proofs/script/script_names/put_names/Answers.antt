use Rattle.std.proofs.Common.{◌≡◌, ◌≤◌, arith, sym, ap, ◌∙◌}
use Rattle.ra_schedule.specs.StateText.{name_of}
use Rattle.ra_schedule.proofs.ScriptNames.{is_there, no_names, name_put, all_put, none_put}
use Rattle.ra_schedule.proofs.script.script_names.put_names.Goals as goal
use Rattle.ra_schedule.proofs.script.script_names.put_names.Goals.{in-Lock, in-Unlock}

pub loop-place-init : goal.loop-place-init
loop-place-init c = no_names c.args.script.now c.args.client c.args.names.now.keys

pub unreachable-requires : goal.unreachable-requires
unreachable-requires c =
    is_there c.args.script.now c.args.client c.loop-place.place c.in-Some.count (sym c.in-Some.ensures.value) c.loop-place-test.true c.in_default-op.ensures.value

pub loop-place-preserved : goal.loop-place-preserved
loop-place-preserved c =
    let named : c.match-op-2.name ≡ name_of c.in-Some-op.op =
    elim c.match-op-2.branch [
      | in-Lock w ↦ w.name-is ∙ sym (ap name_of w.in-Lock.is)
      | in-Unlock w ↦ w.name-is ∙ sym (ap name_of w.in-Unlock.is)
    ] in
    name_put c.args.script.now c.args.client c.loop-place.place c.in-Some-op.op c.match-op-2.name c.args.names.now.keys c.loop-place.names c.insert.new.self
    c.loop-place.invariant (sym c.in-Some-op.ensures.value) named c.in_ok-insert.ensures.updates

pub returns-in_default : goal.returns-in_default
returns-in_default c = none_put c.args.script.now c.args.client c.args.names.now.keys (sym c.in_default.ensures.value)

pub returns : goal.returns
returns c =
    let past : c.in-Some.count ≤ c.loop-place.place = omega (arith, c.loop-place-test.false) in
    all_put c.args.script.now c.args.client c.in-Some.count c.loop-place.place c.args.names.now.keys c.loop-place.names.keys (sym c.in-Some.ensures.value) past c.loop-place.invariant
