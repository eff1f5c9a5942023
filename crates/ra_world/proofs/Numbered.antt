-- Each mark of a run has a number, and so has each message that is taken in it.
use Rattle.std.proofs.Common.{ℕ, List, [], ◌∷◌, ◌++◌, All}
use Rattle.std.proofs.lemmas.List.Elements.{All-nil, All-cons, All-append, All-weaker}
use Rattle.ra_stamp.specs.declared.message.Message.{Message}
use Rattle.ra_stamp.specs.declared.entry.Mark.{Mark}
use Rattle.ra_stamp.specs.declared.entry.Mark.TheVariants.{Requested, Entered, Left, Withdrawn}
use Rattle.ra_stamp.specs.NodeId.{IsNodeNumber}
use Rattle.ra_node.specs.Node.{NodeState, IsConsistentNode}
use Rattle.ra_node.specs.Events.{Event, name_of_event, NodeEvent, IsForThisNode}
use Rattle.ra_node.specs.Carried.{IsMark}
use Rattle.ra_world.specs.declared.step.Step.{Step}
use Rattle.ra_world.specs.declared.step.Step.TheVariants.{Ask, Leave, Cancel, Deliver, Lose, Repeat, Forget}
use Rattle.ra_world.specs.Below.{LawsBelow}
use Rattle.ra_world.specs.Traffic.{Move, taken_in, taken_by}
use Rattle.ra_world.specs.Numbers.{IsNumberedMark, IsNumberedMessage}
use Rattle.ra_world.specs.Run.{marks_of, IsFit, IsRun}
use Rattle.ra_world.proofs.MoveByMove.{longer, just_before, fits_here, by_move}
use Rattle.ra_world.proofs.Reached.{Reached, was_under_way}

number_of : (me : ℕ) (name : List ℕ) (mark : Mark) → IsMark me name mark → IsNumberedMark mark
number_of me name (Requested entry) is = is.numbered
number_of me name (Entered entry) is = is.numbered
number_of me name (Left entry) is = is.numbered
number_of me name (Withdrawn entry) is = is.numbered

-- what a node's events mark
abbrev pub MarksOfNodes : Type 0
MarksOfNodes = (old new : NodeState) (event : Event) (sends : List Message) (marks : List Mark)
    → IsConsistentNode old → IsForThisNode old event → NodeEvent old event sends marks new
    → All (IsMark old.me (name_of_event event)) marks

module _ (laws : LawsBelow) (marks_law : MarksOfNodes) (n start : ℕ) (count : IsNodeNumber n) where
  taken_numbered : (ms : List Move) (sends : List Message) (marks : List Mark) → Reached (Unit {0}) (Unit {0}) n start ms → (step : Step) → IsFit n ms step sends marks
      → All IsNumberedMessage (taken_in step)
  taken_numbered ms sends marks before (Ask node client name mode) fit = All-nil IsNumberedMessage
  taken_numbered ms sends marks before (Leave node client name) fit = All-nil IsNumberedMessage
  taken_numbered ms sends marks before (Cancel node client name) fit = All-nil IsNumberedMessage
  taken_numbered ms sends marks before (Forget node) fit = All-nil IsNumberedMessage
  taken_numbered ms sends marks before (Deliver message) fit =
      All-cons IsNumberedMessage message [] (was_under_way laws n start ms before message fit).traffic.numbered (All-nil IsNumberedMessage)
  taken_numbered ms sends marks before (Lose message) fit =
      All-cons IsNumberedMessage message [] (was_under_way laws n start ms before message fit.0).traffic.numbered (All-nil IsNumberedMessage)
  taken_numbered ms sends marks before (Repeat message) fit = All-nil IsNumberedMessage

  move_by_move : (suffix ms : List Move) → IsRun n start (ms ++ suffix) → All IsNumberedMark (marks_of suffix) × All IsNumberedMessage (taken_by suffix)
  move_by_move [] ms run = (All-nil IsNumberedMark, All-nil IsNumberedMessage)
  move_by_move (m ∷ suffix) ms run =
      let before = just_before laws n start count m suffix ms run in
      let marked = by_move laws n start count m suffix ms run IsNumberedMark (λ p event new within for happened.
      All-weaker (IsMark (before.nodes p).me (name_of_event event)) IsNumberedMark (number_of (before.nodes p).me (name_of_event event)) m.marks
      (marks_law (before.nodes p) new event m.sends m.marks (before.invariant.each p within).consistent for happened)) in
      let taken = taken_numbered ms m.sends m.marks before m.step (fits_here laws n start count m suffix ms run) in
      let rest = move_by_move suffix (ms ++ m ∷ []) (longer laws n start count m suffix ms run) in
      (All-append IsNumberedMark m.marks (marks_of suffix) marked rest.0, All-append IsNumberedMessage (taken_in m.step) (taken_by suffix) taken rest.1)

  pub numbered : (moves : List Move) → IsRun n start moves → All IsNumberedMark (marks_of moves) × All IsNumberedMessage (taken_by moves)
  numbered moves run = move_by_move moves [] run
