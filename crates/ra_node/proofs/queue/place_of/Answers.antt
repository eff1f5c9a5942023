use Rattle.std.proofs.Common.{◌<◌, ◌≤◌, length, sym, arith}
use Rattle.ra_node.proofs.Known.{none_more, nowhere}
use Rattle.ra_node.proofs.queue.place_of.Goals as goal

pub returns-then-index-client-clause-found : goal.returns-then-index-client-clause-found
returns-then-index-client-clause-found c =
    let queue = c.args.clients.now.items in
    let within : c.loop-place.place < length queue = omega (arith, c.loop-place-test.true, c.len-place-end.ensures, c.args.clients.now.ok.0) in
    (c.index.result.now, within, sym c.index.ensures, c.if-index-client.true)

pub loop-place-preserved : goal.loop-place-preserved
loop-place-preserved c =
    let queue = c.args.clients.now.items in
    let within : c.loop-place.place < length queue = omega (arith, c.loop-place-test.true, c.len-place-end.ensures, c.args.clients.now.ok.0) in
    record { none = none_more queue c.loop-place.place c.args.client c.index.result.now within c.index.ensures c.if-index-client.false c.loop-place.invariant.none }

pub returns-clause-none : goal.returns-clause-none
returns-clause-none c = λ _.
    let queue = c.args.clients.now.items in
    let end : length queue ≤ c.loop-place.place = omega (arith, c.loop-place-test.false, c.len-place-end.ensures, c.args.clients.now.ok.0) in
    nowhere queue c.loop-place.place c.args.client end c.loop-place.invariant.none
