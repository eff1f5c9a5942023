use Rattle.std.proofs.Common.{◌<◌, length, ap, ◌∙◌, arith}
use Rattle.std.proofs.Math.Seq.{map-set_same}
use Rattle.ra_host.specs.Outgoing.{outgoing_of}
use Rattle.ra_host.proofs.Rooms.{spaced_more}
use Rattle.ra_host.proofs.played.make_room.Goals as goal

pub returns-in_err-reserve-clause-same : goal.returns-in_err-reserve-clause-same
returns-in_err-reserve-clause-same c =
    let items = c.loop-place.outboxes.items in
    map-set_same outgoing_of items c.loop-place.place c.reserve.new.self c.index_mut.result.now (c.in_err-reserve.ensures.same ∙ ap outgoing_of c.index_mut.ensures.value)
    ∙ c.loop-place.invariant.same

pub loop-place-preserved : goal.loop-place-preserved
loop-place-preserved c =
    let items = c.loop-place.outboxes.items in
    let within : c.loop-place.place < length items =
    omega (arith, c.loop-place-test.true, c.len-place-end.ensures, c.loop-place.invariant.len, c.loop-place.outboxes.ok.0, c.args.outboxes.now.ok.0) in
    record {
      same = map-set_same outgoing_of items c.loop-place.place c.reserve.new.self c.index_mut.result.now (c.in_ok-reserve.ensures.same ∙ ap outgoing_of c.index_mut.ensures.value)
          ∙ c.loop-place.invariant.same;
      len = c.loop-place.invariant.len;
      room = spaced_more items c.loop-place.place c.reserve.new.self 128 within c.loop-place.invariant.room c.in_ok-reserve.ensures.ok;
    }
