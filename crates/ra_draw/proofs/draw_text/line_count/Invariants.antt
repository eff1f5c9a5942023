use Rattle.std.proofs.Common.{◌≡◌, ◌≤◌, take}
use Rattle.std.specs.Prelude.{sum_by}
use Rattle.ra_draw.specs.Lines.{feed_count}
use Rattle.ra_draw.proofs.draw_text.line_count.Given as goal

-- the lines so far, no more than the bytes
abbrev pub invariant-loop-byte : goal.invariant-loop-byte
invariant-loop-byte l = (l.lines ≡ sum_by feed_count (take l.byte-index l.text)) × (l.lines ≤ l.byte-index)
