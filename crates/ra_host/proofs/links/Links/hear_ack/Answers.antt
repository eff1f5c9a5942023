use Rattle.std.proofs.Common.{refl, sym, ap, ◌∙◌}
use Rattle.ra_link.specs.declared.link.Link.{Link}
use Rattle.ra_link.specs.Link as rule
use Rattle.ra_host.proofs.LinksHeld.{found_is, heard_is, never}
use Rattle.ra_host.proofs.links.Links.hear_ack.Goals as goal

pub returns-clause-host : goal.returns-clause-host
returns-clause-host c ok h are =
    let found = c.in-Some.ensures.found in
    heard_is c.args.self.now c.put.new.self h c.args.other c.in-Some.link c.hear_ack.new.self
    (λ x. rule.ack_accuses x c.args.start c.args.asker c.args.kept) (λ x. rule.hears_ack x c.args.start c.args.asker c.args.kept) are found.0 found.1
    (never _ c.in-Ok.ensures.old.1) (c.in-Ok.ensures.link refl) c.put.ensures.me c.put.ensures.links

pub returns-clause-count : goal.returns-clause-count
returns-clause-count c h are =
    let found = c.in-Some.ensures.found in
    c.acknowledged.ensures
    ∙ ap (λ (x : Link). x.acknowledged) (c.in-Ok.ensures.link refl ∙ ap (λ (x : Link). rule.hears_ack x c.args.start c.args.asker c.args.kept) (sym (found_is c.args.self.now h c.args.other c.in-Some.link are found.0 found.1)))
