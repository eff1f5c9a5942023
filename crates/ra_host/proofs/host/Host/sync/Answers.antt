use Rattle.ra_host.proofs.ReadyNodes.{book_synced}
use Rattle.ra_host.proofs.host.Host.sync.Goals as goal

pub returns : goal.returns
returns c h are = record { held = c.sync.ensures h are.held; ready = book_synced c.args.self.now.played h are.ready }
