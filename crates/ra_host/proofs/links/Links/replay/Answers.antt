use Rattle.std.proofs.Common.{◌<◌, ◌≤◌, length, refl, sym, ◌∙◌, arith}
use Rattle.ra_host.specs.declared.links.Links.{Links}
use Rattle.ra_host.proofs.ReplayedLinks.{none_short, one_short, replayed_is}
use Rattle.ra_host.proofs.links.Links.replay.Goals as goal

pub returns-then-accuses-clause-old : goal.returns-then-accuses-clause-old
returns-then-accuses-clause-old c err h are is =
    let links = c.args.self.now in
    let within : c.loop-place.place < length links.links.items = omega (arith, c.loop-place-test.true, c.len-place-end.ensures, links.links.ok.0) in
    one_short links c.args.played.now h are is c.loop-place.place c.index-link.result.now c.made_at.result within
    (λ same. c.if-place.true (omega (arith, same, c.place.ensures.value, c.place.ensures.valid.0))) c.index-link.ensures c.made_at.ensures (sym c.accuses.ensures ∙ c.if-accuses.true)

pub returns-clause-ok : goal.returns-clause-ok
returns-clause-ok c ok h are is may =
    let links = c.args.self.now in
    let new : Links = record links { links = c.replay_all.new.links } in
    let all : length links.links.items ≤ c.loop-place.place = omega (arith, c.loop-place-test.false, c.len-place-end.ensures, links.links.ok.0) in
    let none = none_short links c.args.played.now h are is c.loop-place.place all c.loop-place.invariant in
    (replayed_is links c.args.played.now h are is new may none refl c.replay_all.ensures.len c.replay_all.ensures.each, none)
