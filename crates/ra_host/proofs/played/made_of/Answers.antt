use Rattle.std.proofs.Common.{◌<◌, length, arith, ap, ◌∙◌}
use Rattle.ra_host.specs.declared.outbox.Outbox.{Outbox}
use Rattle.ra_host.proofs.ReplayedLinks.{made_of_box, none_made_at}
use Rattle.ra_host.proofs.played.made_of.Goals as goal

pub returns-then-place-outboxes : goal.returns-then-place-outboxes
returns-then-place-outboxes c = none_made_at c.args.outboxes.now c.args.place (omega (arith, c.if-place-outboxes.true))

pub returns : goal.returns
returns c =
    let within : c.args.place < length c.args.outboxes.now = omega (arith, c.if-place-outboxes.false) in
    c.made.ensures ∙ ap (λ (b : Outbox). b.made) c.index-outboxes-place.is ∙ made_of_box c.args.outboxes.now c.args.place c.index-outboxes-place.result within
