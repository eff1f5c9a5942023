use Rattle.std.proofs.Common.{Bool, if◌then◌else◌, refl, subst, sym, ◌∙◌}
use Rattle.ra_host.specs.Host.{hears_hello}
use Rattle.ra_host.specs.Running.{AreLinksOf}
use Rattle.ra_link.specs.Link as rule
use Rattle.ra_serve.proofs.LinkedHosts.{hello_passed, hello_said, linked_here}
use Rattle.ra_serve.proofs.returning.Returning.hear_hello.Goals as goal

pub returns-then-not-may_hear-clause-says : goal.returns-then-not-may_hear-clause-says
returns-then-not-may_hear-clause-says c h are =
    hello_passed c.args.self.now.base c.may_hear.new.base h c.args.host c.args.start c.args.question c.args.nodes c.args.first c.args.identity c.may_hear.result
    c.may_hear.ensures.meets c.may_hear.ensures.heard c.if-not-may_hear.true

pub returns-in-Ok-clause-says : goal.returns-in-Ok-clause-says
returns-in-Ok-clause-says c h are =
    let is_link = c.requires h are in
    let new = c.in-Ok.ensures.host refl h are in
    hello_said c.args.self.now.base c.may_hear.new.base c.answer_hello.new.base h c.args.host c.args.start c.args.question c.args.nodes c.args.first c.args.identity
    c.args.was c.link_to-is.result c.in-Ok.welcome c.may_hear.result c.may_hear.ensures.meets c.may_hear.ensures.heard c.if-not-may_hear.false is_link.1
    (c.link_to-is.ensures (hears_hello h c.args.host c.args.start) new is_link.0 ∙ linked_here h c.args.host (rule.hears_hello (h.links c.args.host) c.args.start))
    (c.in-Ok.ensures.welcome h are) c.answer_hello.ensures

pub returns-in-Ok-clause-links : goal.returns-in-Ok-clause-links
returns-in-Ok-clause-links c h are =
    subst (λ (b : Bool). AreLinksOf c.hear_hello.new.self (if b then hears_hello h c.args.host c.args.start else h))
    (sym c.if-not-may_hear.false ∙ c.may_hear.ensures.heard) (c.in-Ok.ensures.host refl h are)
