-- Room for what a message brings.
use Rattle.std.proofs.Common.{ℕ, ◌≤◌, List, length, arith}
use Rattle.ra_stamp.specs.declared.entry.Mark.{Mark}
use Rattle.ra_stamp.specs.declared.message.Message.{Message}
use Rattle.ra_node.specs.Node.{NodeState}
use Rattle.ra_node.specs.Events.{NodeEvent, ReceiveEvent}
use Rattle.ra_node.specs.Events.{Event as acts}
use Rattle.ra_node.specs.Carried.{replies_at_most, entries_at_most}
use Rattle.ra_world.specs.StepLog.{LogState, HasRoom}

-- for the most that it brings
pub fits : ((old new : NodeState) (message : Message) (sends : List Message) (marks : List Mark) → NodeEvent old (acts.Receive message) sends marks new
    → (length sends ≤ replies_at_most message) × (length marks ≤ entries_at_most message))
    → (s : NodeState) (message : Message) (spare : ℕ) (log : LogState) → replies_at_most message ≤ spare → HasRoom log (entries_at_most message)
    → (sends : List Message) (marks : List Mark) (new : NodeState) → ReceiveEvent s message sends marks new → (length sends ≤ spare) × HasRoom log (length marks)
fits law s message spare log bag has sends marks new happened =
    let few = law s new message sends marks happened in
    (omega (arith, few.0, bag), record { for_step = has.for_step; for_marks = omega (arith, few.1, has.for_marks) })
