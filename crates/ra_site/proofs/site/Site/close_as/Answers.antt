use Rattle.std.proofs.Common.{ap, ◌∙◌}
use Rattle.ra_site.specs.Sites.{SiteState}
use Rattle.ra_site.proofs.site.Site.close_as.Goals as goal

pub returns-then-is_whole_of : goal.returns-then-is_whole_of
returns-then-is_whole_of c =
    let is = c.is_whole_of.ensures.0 c.if-is_whole_of.true in
    record { me_is = is.me_is ∙ ap (λ (site : SiteState). site.node) c.self.view_is; nodes_are = is.nodes_are; start_is = is.start_is; whole = is.whole; history = is.history }

pub returns : goal.returns
returns c =
    let made = c.stopped_book.ensures in
    record { me_is = made.me_is ∙ ap (λ (site : SiteState). site.node) c.self.view_is; nodes_are = made.nodes_are; start_is = made.start_is; whole = made.whole; history = made.history }
