use Rattle.std.proofs.Common.{◌≢◌, ℕ, ◌<◌, get_or}
use Rattle.ra_audit.proofs.auditor.flights.is_one_of.Given as goal

-- none of the messages so far is this one
abbrev pub invariant-loop-other : goal.invariant-loop-other
invariant-loop-other l = (k : ℕ) → k < l.other-index → get_or l.messages k l.message ≢ l.message
