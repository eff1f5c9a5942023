use Rattle.std.proofs.Common.{ℕ, ◌<◌, get_or}
use Rattle.ra_stamp.specs.declared.entry.Entry.{Entry}
use Rattle.ra_table.specs.Refusals.{SharesNodeAndName}
use Rattle.ra_table.proofs.entry_lists.has_node_of.Given as goal

-- none so far
abbrev pub invariant-loop-other : goal.invariant-loop-other
invariant-loop-other l = (k : ℕ) (d : Entry) → k < l.other-index → SharesNodeAndName (get_or l.list k d) l.entry → ⊥
