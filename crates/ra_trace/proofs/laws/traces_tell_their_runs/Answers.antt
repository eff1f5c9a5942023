use Rattle.ra_trace.proofs.TraceLaws.{traces_rest_on_runs}
use Rattle.ra_trace.proofs.Told.{told}
use Rattle.ra_trace.proofs.laws.traces_tell_their_runs.Goals as goal

pub returns : goal.returns
returns c = told traces_rest_on_runs.determined
