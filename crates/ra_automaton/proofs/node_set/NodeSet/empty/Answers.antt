use Rattle.ra_automaton.proofs.NodeSetLemmas.{set_of-zero}
use Rattle.ra_automaton.proofs.node_set.NodeSet.empty.Goals as goal

pub returns : goal.returns
returns c = set_of-zero
