use Rattle.std.proofs.Common.{◌≡◌, ◌+◌, ◌<◌, length, get_or, refl, arith}
use Rattle.std.proofs.lemmas.List.{get_or_default}
use Rattle.ra_audit.proofs.AuditSteps.{takes_at}
use Rattle.ra_audit.proofs.auditor.take_into.Goals as goal

pub returns : goal.returns
returns c =
    let nodes = c.args.nodes.now in
    let place = c.place-place.result in
    let number : place + 1 ≡ c.args.node = omega (arith, c.place-place.ensures.value, c.place-place.ensures.valid.0) in
    let within : place < length nodes = omega (arith, c.if-place-nodes.false) in
    let x = c.index-nodes-place.result in
    let p = get_or nodes place x in
    takes_at nodes _ c.args.node c.args.after place c.args.events.now p c.take.new.self c.take.result number within (get_or_default nodes place x p within) refl
    c.take.ensures.ok c.take.ensures.out_of_turn.0 c.take.ensures.out_of_turn.1 c.take.ensures.not_next.0 c.take.ensures.not_next.1 c.take.ensures.no_node c.take.ensures.err
