use Rattle.ra_draw.specs.Following.{IsSamePage}
use Rattle.ra_draw.proofs.timeline.Timeline.take_last_marks.Given as goal

-- rows and nodes stay as they are
abbrev pub invariant-loop-told : goal.invariant-loop-told
invariant-loop-told l = IsSamePage l.fn.self l.self
