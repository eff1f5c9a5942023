use Rattle.std.proofs.Common.{◌≡◌, drop}
use Rattle.ra_cluster.specs.Outcome as spec
use Rattle.ra_cluster.proofs.settled_script.first_fault.Given as goal

-- no book so far has a fault
abbrev pub invariant-loop-book : goal.invariant-loop-book
invariant-loop-book l = spec.first_fault (drop l.book-index l.books) ≡ spec.first_fault l.books
