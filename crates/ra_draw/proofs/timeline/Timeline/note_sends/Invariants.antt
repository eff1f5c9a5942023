use Rattle.ra_draw.specs.Following.{IsSamePage}
use Rattle.ra_draw.proofs.timeline.Timeline.note_sends.Given as goal

-- rows and nodes stay as they are
abbrev pub invariant-loop-message : goal.invariant-loop-message
invariant-loop-message l = IsSamePage l.fn.self l.self
