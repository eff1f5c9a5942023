use Rattle.std.proofs.Common.{take}
use Rattle.ra_world.specs.World.{HasMade}
use Rattle.ra_world.proofs.world.run_steps.step_through.Given as goal

-- the steps so far
abbrev pub invariant-loop-place : goal.invariant-loop-place
invariant-loop-place l = HasMade l.fn.world.count l.fn.world.start (take l.place l.steps) l.world
