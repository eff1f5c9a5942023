use Rattle.std.proofs.Common.{◌≡◌, ℕ, None, slice_index_or}
use Rattle.ra_audit.proofs.auditor.flights.Flights.new.Given as goal

-- no slot so far has a frame
abbrev pub invariant-loop : goal.invariant-loop
invariant-loop l = (slot : ℕ) → slice_index_or l.slots.items slot None ≡ None
