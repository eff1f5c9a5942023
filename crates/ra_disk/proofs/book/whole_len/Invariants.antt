use Rattle.std.proofs.Common.{◌≡◌, ◌≤◌, length, take}
use Rattle.ra_disk.specs.Lines.{lines}
use Rattle.ra_disk.proofs.book.whole_len.Given as goal

abbrev pub invariant-loop-len : goal.invariant-loop-len
invariant-loop-len l = record { size : l.len ≤ length l.text; same : lines (take l.len l.text) ≡ lines l.text }

abbrev pub decreases-loop-len : goal.decreases-loop-len
decreases-loop-len l = l.len
