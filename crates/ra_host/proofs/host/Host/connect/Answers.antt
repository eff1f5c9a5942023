use Rattle.ra_host.proofs.ReadyNodes.{connected}
use Rattle.ra_host.proofs.host.Host.connect.Goals as goal

pub returns-clause-host : goal.returns-clause-host
returns-clause-host c ok h are = record { held = c.connect.ensures.host ok h are.held; ready = connected c.args.self.now.played h c.args.other are.ready }
