-- Outcomes that were made before their event, so that the event takes no memory.
use Rattle.std.specs.Prelude.{◌≡◌, ℕ, ◌*◌, ◌≤◌, [], Result, Ok, Err}
use Rattle.ra_node.specs.declared.outcome.Outcome.{Outcome}

-- nothing is sent or marked
pub record IsNothing (outcome : Outcome) : Type 0 where
  pub sends : outcome.sends.items ≡ []
  pub marks : outcome.marks.items ≡ []

-- there is room for all that a leave sends and marks, in a cluster of this many nodes: a REPLY and a REQUEST to each,
-- and the marks Left, Requested and Entered
pub record HasRoomToLeave (nodes : ℕ) (outcome : Outcome) : Type 0 where
  pub sends : 2 * nodes ≤ outcome.sends.spare
  pub marks : 3 ≤ outcome.marks.spare

-- the answer of a call that was lent an outcome, with this outcome if it is Ok
abbrev pub answer_with : {T E : Type 0} → Result T E → Outcome → Result Outcome E
answer_with (Ok v) outcome = Ok outcome
answer_with (Err fault) outcome = Err fault
