use Rattle.std.proofs.Common.{◌≢◌, ℕ, ◌<◌, get_or}
use Rattle.ra_trace.proofs.line.fields.split_once.Given as goal

-- no byte so far is this one
abbrev pub invariant-loop-end : goal.invariant-loop-end
invariant-loop-end l = (k : ℕ) → k < l.end → get_or l.text k 0 ≢ l.byte
