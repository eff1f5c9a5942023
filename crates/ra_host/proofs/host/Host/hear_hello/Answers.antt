use Rattle.ra_host.proofs.ReadyNodes.{hello_heard}
use Rattle.ra_host.proofs.host.Host.hear_hello.Goals as goal

pub returns-clause-host : goal.returns-clause-host
returns-clause-host c ok h are = record { held = c.hear_hello.ensures.host ok h are.held; ready = hello_heard c.args.self.now.played h c.args.other c.args.start are.ready }
