use Rattle.std.proofs.Common.{refl, ap, ◌∙◌, arith}
use Rattle.std.proofs.lemmas.Bool.{false≢true}
use Rattle.ra_site.specs.Sites.{SiteState}
use Rattle.ra_site.proofs.SiteNumbers.{number_of, numbers_of_first}
use Rattle.ra_site.proofs.cluster.all_sites.are_in_order.Goals as goal

pub returns-then-place : goal.returns-then-place
returns-then-place c = (
  λ is. absurd (false≢true is),
  λ are.
      let place = c.loop-place.place in
      let number = number_of c.args.sites.now are place c.index-sites-place.result c.loop-place-test.true in
      let found = c.node.ensures ∙ ap (λ (s : SiteState). s.node) c.index-sites-place.is ∙ number in
      absurd (c.if-place.true (omega (arith, c.place.ensures.value, found))),
)

pub returns : goal.returns
returns c = (λ _. numbers_of_first c.args.sites.now c.loop-place.place (omega arith) c.loop-place.invariant, λ _. refl)
