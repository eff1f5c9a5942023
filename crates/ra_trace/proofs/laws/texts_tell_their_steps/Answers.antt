use Rattle.ra_trace.proofs.Told.{told_lines}
use Rattle.ra_trace.proofs.laws.texts_tell_their_steps.Goals as goal

pub returns : goal.returns
returns c = told_lines
