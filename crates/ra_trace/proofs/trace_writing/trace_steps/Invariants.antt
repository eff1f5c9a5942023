use Rattle.std.proofs.Common.{ℕ, [], take}
use Rattle.ra_trace.specs.Writing.{HasTraced}
use Rattle.ra_trace.proofs.trace_writing.trace_steps.Given as goal

-- the steps so far, and their text
abbrev pub invariant-loop-place : goal.invariant-loop-place
invariant-loop-place l =
    (n start : ℕ) → HasTraced l.version n start [] l.fn.world l.fn.text → HasTraced l.version n start (take l.place l.step-items) l.world l.text
