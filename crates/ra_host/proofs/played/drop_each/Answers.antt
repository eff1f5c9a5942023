use Rattle.std.proofs.Common.{◌≡◌, ◌<◌, ℕ, length, ap, ◌∙◌, arith}
use Rattle.std.proofs.lemmas.List.{length-set}
use Rattle.ra_host.specs.declared.outbox.Outbox.{Outbox}
use Rattle.ra_host.specs.Outgoing.{drops, outgoing_of}
use Rattle.ra_host.specs.Replaying.{acknowledged_at}
use Rattle.ra_host.proofs.ReplayedLinks.{changed_more, rest_more}
use Rattle.ra_host.proofs.played.drop_each.Goals as goal

pub loop-place-preserved : goal.loop-place-preserved
loop-place-preserved c =
    let olds = c.args.outboxes.now.items in
    let items = c.loop-place.outboxes.items in
    let place = c.loop-place.place in
    let x = c.index_mut.result.now in
    let y = c.drop_first.new.self in
    let so_far = c.loop-place.invariant in
    let len = so_far.len in
    let within : place < length olds = omega (arith, c.loop-place-test.true, c.len-place-end.ensures, c.args.outboxes.now.ok.0) in
    let goes : outgoing_of y ≡ drops (outgoing_of x) (acknowledged_at c.args.links.now.links.items place) =
    c.drop_first.ensures ∙ ap (drops (outgoing_of x)) c.acknowledged_at-count.ensures in
    record {
      len = length-set items place y ∙ len;
      done = changed_more (λ (k : ℕ) (a b : Outbox). outgoing_of b ≡ drops (outgoing_of a) (acknowledged_at c.args.links.now.links.items k)) olds items place x y len within so_far.done so_far.rest c.index_mut.ensures.value goes;
      rest = rest_more olds items place y so_far.rest;
    }
