use Rattle.std.proofs.Common.{◌↔◌, length}
use Rattle.ra_schedule.specs.Script.{IsHeldAfter}
use Rattle.ra_schedule.proofs.script.is_held_after.Given as goal

-- the operations that are left say whether the name is held
abbrev pub invariant-loop-last : goal.invariant-loop-last
invariant-loop-last l = IsHeldAfter l.ops l.name ↔ IsHeldAfter l.rest l.name

abbrev pub decreases-loop-last : goal.decreases-loop-last
decreases-loop-last l = length l.rest
