use Rattle.std.proofs.Common.{◌≡◌, drop}
use Rattle.ra_trace.specs.TraceText.{plain_version}
use Rattle.ra_trace.proofs.trace_writing.plain_version.Given as goal

-- the steps so far are in version 2
abbrev pub invariant-loop-step : goal.invariant-loop-step
invariant-loop-step l = plain_version (drop l.step-index l.step-items) ≡ plain_version l.step-items
