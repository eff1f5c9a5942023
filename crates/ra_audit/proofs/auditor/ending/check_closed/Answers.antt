use Rattle.std.proofs.Common.{ap}
use Rattle.std.specs.Prelude.{is_some}
use Rattle.ra_audit.proofs.StillLost.{none_at_all}
use Rattle.ra_audit.proofs.auditor.ending.check_closed.Goals as goal

pub returns-in-None-clause-ok : goal.returns-in-None-clause-ok
returns-in-None-clause-ok c = (c.first_not_all_in.ensures.all (ap is_some c.in_default.is), none_at_all c.args.books.now c.in-None.ensures)
