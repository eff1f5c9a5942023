use Rattle.std.proofs.Common.{◌≡◌, subst}
use Rattle.ra_site.specs.ClientGrant.{WasGiven}
use Rattle.ra_site.proofs.site.Site.tell_and_send.Goals as goal

pub tell-requires : goal.tell-requires
tell-requires g c = λ grant is.
    let same : c.in-Some.grant ≡ grant = cc in
    subst WasGiven same (c.args.stepped.now.given (c.in-Some.ticket, c.in-Some.grant) c.in-Some.is)
