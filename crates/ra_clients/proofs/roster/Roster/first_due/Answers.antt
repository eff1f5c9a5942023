use Rattle.ra_clients.proofs.Found.{due_is}
use Rattle.ra_clients.proofs.roster.Roster.first_due.Goals as goal

pub returns : goal.returns
returns c = due_is c.args.self.now c.args.now c.first_due.result c.first_due.ensures
