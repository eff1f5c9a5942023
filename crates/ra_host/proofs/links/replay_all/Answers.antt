use Rattle.std.proofs.Common.{◌≡◌, ◌<◌, ℕ, length, ap, ◌∙◌, arith}
use Rattle.std.proofs.lemmas.List.{length-set}
use Rattle.ra_link.specs.declared.link.Link.{Link}
use Rattle.ra_host.specs.Outgoing.{made_at}
use Rattle.ra_host.specs.Replaying.{replayed}
use Rattle.ra_host.proofs.ReplayedLinks.{changed_more, replayed_or, rest_more}
use Rattle.ra_host.proofs.links.replay_all.Goals as goal

pub loop-place-preserved : goal.loop-place-preserved
loop-place-preserved c =
    let olds = c.args.links.now.items in
    let items = c.loop-place.links.items in
    let place = c.loop-place.place in
    let x = c.index.result.now in
    let y = c.replayed.new.self in
    let so_far = c.loop-place.invariant in
    let len = so_far.len in
    let within : place < length olds = omega (arith, c.loop-place-test.true, c.len-place-end.ensures, c.args.links.now.ok.0) in
    let goes : y ≡ replayed x (made_at c.args.played.now.outgoing place) =
    replayed_or x y c.replayed.result c.made_at.result c.replayed.ensures.ready c.replayed.ensures.passed c.replayed.ensures.old c.replayed.ensures.err ∙ ap (replayed x) c.made_at.ensures in
    record {
      len = length-set items place y ∙ len;
      done = changed_more (λ (k : ℕ) (a b : Link). b ≡ replayed a (made_at c.args.played.now.outgoing k)) olds items place x y len within so_far.done so_far.rest c.index.ensures goes;
      rest = rest_more olds items place y so_far.rest;
    }
