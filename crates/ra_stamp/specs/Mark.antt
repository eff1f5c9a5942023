-- The word of a mark, and its entry.
use Rattle.std.specs.Prelude.{ℕ, List, codes}
use Rattle.ra_stamp.specs.declared.entry.Entry.{Entry}
use Rattle.ra_stamp.specs.declared.entry.Mark.{Mark}
use Rattle.ra_stamp.specs.declared.entry.Mark.TheVariants.{Requested, Entered, Left, Withdrawn}

-- the request that was made, granted, given back or given up
abbrev pub entry_of_mark : Mark → Entry
entry_of_mark (Requested entry) = entry
entry_of_mark (Entered entry) = entry
entry_of_mark (Left entry) = entry
entry_of_mark (Withdrawn entry) = entry

-- its word in texts
abbrev pub mark_word : Mark → List ℕ
mark_word (Requested entry) = codes "request"
mark_word (Entered entry) = codes "enter"
mark_word (Left entry) = codes "leave"
mark_word (Withdrawn entry) = codes "withdraw"
