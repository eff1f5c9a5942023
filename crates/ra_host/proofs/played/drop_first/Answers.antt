use Rattle.std.proofs.Common.{◌<◌, ◌≤◌, length, ap, ◌∙◌, arith}
use Rattle.ra_host.specs.declared.outbox.Outbox.{Outbox}
use Rattle.ra_host.specs.Outgoing.{drops, outgoing_of}
use Rattle.ra_host.proofs.Rooms.{dropped_at, none_dropped_at}
use Rattle.ra_host.proofs.played.drop_first.Goals as goal

pub returns-then-place-len : goal.returns-then-place-len
returns-then-place-len c =
    let items = c.args.outboxes.now.items in
    let past : length items ≤ c.args.place = omega (arith, c.if-place-len.true, c.len.ensures, c.args.outboxes.now.ok.0) in
    none_dropped_at items c.args.place c.args.count past

pub returns : goal.returns
returns c =
    let items = c.args.outboxes.now.items in
    let low : c.args.place < length items = omega (arith, c.if-place-len.false, c.len.ensures, c.args.outboxes.now.ok.0) in
    dropped_at items c.args.place c.drop_first.new.self c.index_mut.result.now c.args.count low
    (c.drop_first.ensures ∙ ap (λ (b : Outbox). drops (outgoing_of b) c.args.count) c.index_mut.ensures.value)
