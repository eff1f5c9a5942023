use Rattle.std.proofs.Common.{◌<◌, ◌≤◌, length, refl, sym, ◌∙◌, arith}
use Rattle.ra_link.specs.Link as rule
use Rattle.ra_host.proofs.LinksHeld.{each_passes, never_both, one_fails}
use Rattle.ra_host.proofs.links.Links.may_replay.Goals as goal

pub returns-then-not-may_replay : goal.returns-then-not-may_replay
returns-then-not-may_replay c h are =
    let links = c.args.self.now in
    let within : c.loop-place.place < length links.links.items = omega (arith, c.loop-place-test.true, c.len-place-end.ensures, links.links.ok.0) in (
      λ yes. absurd (never_both (sym yes)),
      λ all. absurd (one_fails links h rule.may_replay c.loop-place.place c.index-link.result.now are within
          (λ same. c.if-place.true (omega (arith, same, c.place.ensures.value, c.place.ensures.valid.0))) c.index-link.ensures
          (sym c.may_replay.ensures ∙ c.if-not-may_replay.true) all),
    )

pub returns : goal.returns
returns c h are =
    let links = c.args.self.now in
    let all : length links.links.items ≤ c.loop-place.place = omega (arith, c.loop-place-test.false, c.len-place-end.ensures, links.links.ok.0) in (
      λ yes. each_passes links h rule.may_replay c.loop-place.place are all c.loop-place.invariant,
      λ passes. refl,
    )
