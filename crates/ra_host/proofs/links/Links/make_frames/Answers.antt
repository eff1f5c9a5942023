use Rattle.std.proofs.Common.{refl}
use Rattle.ra_host.proofs.MadeFrames.{made_is}
use Rattle.ra_host.proofs.links.Links.make_frames.Goals as goal

pub returns-clause-host : goal.returns-clause-host
returns-clause-host c h clock book are to may me nodes =
    made_is c.args.self.now (record c.args.self.now { links = c.make_each.new.links }) h clock c.args.sends.now book are to may me nodes refl c.make_each.ensures
