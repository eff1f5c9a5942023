use Rattle.std.proofs.Common.{◌<◌, length, arith, ap, ◌∙◌}
use Rattle.ra_host.specs.declared.outbox.Outbox.{Outbox}
use Rattle.ra_host.specs.Outgoing.{frame_at, outgoing_of}
use Rattle.ra_host.proofs.SaidFrames.{frame_of_box, no_frame}
use Rattle.ra_host.proofs.played.frame_of.Goals as goal

pub returns-then-place-outboxes : goal.returns-then-place-outboxes
returns-then-place-outboxes c = no_frame c.args.outboxes.now c.args.place c.args.number (omega (arith, c.if-place-outboxes.true))

pub returns : goal.returns
returns c =
    let within : c.args.place < length c.args.outboxes.now = omega (arith, c.if-place-outboxes.false) in
    c.get.ensures ∙ ap (λ (b : Outbox). frame_at (outgoing_of b) c.args.number) c.index-outboxes-place.is
    ∙ frame_of_box c.args.outboxes.now c.args.place c.index-outboxes-place.result c.args.number within
