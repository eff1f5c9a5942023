use Rattle.std.proofs.Common.{ℕ, ◌<◌, get_or}
use Rattle.ra_stamp.specs.declared.entry.Entry.{Entry}
use Rattle.ra_table.specs.Table.{Excludes}
use Rattle.ra_table.proofs.entry_lists.has_excluding.Given as goal

-- none so far
abbrev pub invariant-loop-other : goal.invariant-loop-other
invariant-loop-other l = (k : ℕ) (d : Entry) → k < l.other-index → Excludes (get_or l.list k d) l.entry → ⊥
