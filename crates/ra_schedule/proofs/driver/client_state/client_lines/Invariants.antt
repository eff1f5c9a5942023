use Rattle.std.proofs.Common.{ℕ, List}
use Rattle.ra_text.specs.Drafting.{Says}
use Rattle.ra_schedule.specs.StateText.{AreClientLines}
use Rattle.ra_schedule.proofs.driver.client_state.client_lines.Given as goal

-- the lines of the clients so far
abbrev pub invariant-loop-place : goal.invariant-loop-place
invariant-loop-place l = (so_far : List ℕ) × AreClientLines l.script l.world.moves l.place so_far × Says l.text so_far
