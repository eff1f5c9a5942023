use Rattle.std.proofs.Common.{◌≡◌, List}
use Rattle.std.specs.Prelude.{is_some}
use Rattle.ra_trace.specs.declared.line.Line.{Line}
use Rattle.ra_draw.specs.Pictures.{AreLines}
use Rattle.ra_draw.proofs.LinesLeft.{AreLeft}
use Rattle.ra_draw.proofs.timeline.Timeline.take_lines.Given as goal

-- what was noted about the lines so far, with what is left to note, is what all lines come to
abbrev pub invariant-loop-before : goal.invariant-loop-before
invariant-loop-before l = record {
  world : is_some l.world ≡ is_some l.fn.world;
  lines : (lines : List Line) → AreLines lines l.text
      → (left : List Line) × AreLeft (is_some l.fn.world) l.part lines l.before l.fn.self l.self left l.rest;
}
