-- `search` does not find that the test is the definition's, so it follows here from the parts of the slot: the view has
-- the automaton as its state, and `highest`, `phase` and `len` tell the parts.
use Rattle.ra_node.proofs.slot.Slot.raise.Goals as goal
