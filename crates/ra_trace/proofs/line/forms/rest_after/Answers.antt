use Rattle.std.proofs.lemmas.Bool.Decides.{Decides-eqb}
use Rattle.std.proofs.lemmas.Slice.Eq.{strip_prefix_is}
use Rattle.ra_trace.proofs.Cuts.{strips}
use Rattle.ra_trace.proofs.line.forms.rest_after.Goals as goal

pub returns : goal.returns
returns c = strips c.args.words.now c.args.text.now c.strip_prefix.result (strip_prefix_is Decides-eqb c.args.text.now c.args.words.now c.strip_prefix.result c.strip_prefix.ensures.cases)
