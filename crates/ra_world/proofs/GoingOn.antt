-- Which steps a run goes on with.
use Rattle.std.proofs.Common.{◌≡◌, ℕ, List, [], ◌∷◌, ◌++◌, refl, subst}
use Rattle.std.specs.Prelude.{◌↔◌}
use Rattle.ra_stamp.specs.declared.mode.Mode.{Mode}
use Rattle.ra_stamp.specs.declared.message.Message.{Message}
use Rattle.ra_stamp.specs.declared.entry.Entry.{Entry}
use Rattle.ra_stamp.specs.declared.entry.Mark.{Mark}
use Rattle.ra_stamp.specs.Message.{to_of}
use Rattle.ra_stamp.specs.NodeId.{IsNodeNumber}
use Rattle.ra_node.specs.Resource.{Holds, IsKeptWaiting}
use Rattle.ra_node.specs.Turns.{MayAsk}
use Rattle.ra_node.specs.Node.{NodeState, resource_at, IsConsistentNode}
use Rattle.ra_node.specs.Events.{Event, Happening, NodeEvent, NodeEvents, AllowsEvent}
use Rattle.ra_node.specs.Events.{Event as acts}
use Rattle.ra_world.specs.declared.step.Step.{Step}
use Rattle.ra_world.specs.declared.step.Step.TheVariants.{Ask, Leave, Cancel, Deliver, Lose, Repeat, Forget}
use Rattle.ra_world.specs.Below.{LawsBelow}
use Rattle.ra_world.specs.Traffic.{Move, IsUnderWay}
use Rattle.ra_world.specs.Run.{events_at, IsFit, IsRun, EndsWith, GoesOn, with_node}
use Rattle.ra_world.proofs.Moves.{allows_all, fits_split, fits_join, at_node}
use Rattle.ra_world.proofs.Protocol.{IsNode}
use Rattle.ra_world.proofs.Nodes.{left_alone, ends_after}
use Rattle.ra_world.proofs.Reached.{Reached, was_under_way, event_happened}
use Rattle.ra_world.proofs.Runs.{every_run, same_ends}

-- what a node really makes of a step goes on with a run
pub event_goes_on : ((prefix rest : List Happening) (a b c : NodeState) → NodeEvents a prefix b → NodeEvents b rest c → NodeEvents a (prefix ++ rest) c)
    → (n start : ℕ) (moves : List Move) (nodes : ℕ → NodeState) (i : ℕ) (event : Event) (move : Move) (new : NodeState) → IsRun n start moves → EndsWith n start moves nodes
    → IsFit n moves move.step move.sends move.marks → events_at i move.step ≡ event ∷ [] → NodeEvent (nodes i) event move.sends move.marks new
    → IsRun n start (moves ++ move ∷ []) × EndsWith n start (moves ++ move ∷ []) (with_node nodes i new)
event_goes_on joins n start moves nodes i event move new run ends fit here happened =
    let after = ends_after joins n start moves move nodes i event new ends here happened in
    (record { each_fits = fits_join n [] moves (move ∷ []) run.each_fits (fit, tt); ends = (with_node nodes i new, after) }, after)

-- and so does the loss of a message under way
pub loss_goes_on : (n start : ℕ) (moves : List Move) (nodes : ℕ → NodeState) (message : Message) → IsRun n start moves → EndsWith n start moves nodes → IsUnderWay moves message
    → IsRun n start (moves ++ record { step = Lose message; sends = []; marks = [] } ∷ []) × EndsWith n start (moves ++ record { step = Lose message; sends = []; marks = [] } ∷ []) nodes
loss_goes_on n start moves nodes message run ends was =
    let m : Move = record { step = Lose message; sends = []; marks = [] } in
    let after : EndsWith n start (moves ++ m ∷ []) nodes = λ i low high. left_alone n start i moves m (nodes i) refl (ends i low high) in
    (record { each_fits = fits_join n [] moves (m ∷ []) run.each_fits ((was, refl, refl), tt); ends = (nodes, after) }, after)

-- and so does a copy of one
pub copy_goes_on : (n start : ℕ) (moves : List Move) (nodes : ℕ → NodeState) (message : Message) → IsRun n start moves → EndsWith n start moves nodes → IsUnderWay moves message
    → IsRun n start (moves ++ record { step = Repeat message; sends = []; marks = [] } ∷ []) × EndsWith n start (moves ++ record { step = Repeat message; sends = []; marks = [] } ∷ []) nodes
copy_goes_on n start moves nodes message run ends was =
    let m : Move = record { step = Repeat message; sends = []; marks = [] } in
    let after : EndsWith n start (moves ++ m ∷ []) nodes = λ i low high. left_alone n start i moves m (nodes i) refl (ends i low high) in
    (record { each_fits = fits_join n [] moves (m ∷ []) run.each_fits ((was, refl, refl), tt); ends = (nodes, after) }, after)

module _ (laws : LawsBelow) (n start : ℕ) (ms : List Move) (nodes : ℕ → NodeState) (count : IsNodeNumber n) (run : IsRun n start ms) (ends : EndsWith n start ms nodes) where
  before : Reached (Unit {0}) (Unit {0}) n start ms
  before = every_run laws n start ms (allows_all ms) count run

  same_at : (i : ℕ) → IsNode n i → before.nodes i ≡ nodes i
  same_at i at = same_ends laws.one_end n start ms before.nodes nodes before.ends ends i at

  pub consistent_at : (i : ℕ) → IsNode n i → IsConsistentNode (nodes i)
  consistent_at i at = subst IsConsistentNode (same_at i at) (before.invariant.each i at).consistent

  fit_of : (step : Step) (on : GoesOn n start ms step) → IsFit n ms step on.0 on.1
  fit_of step on = (fits_split n [] ms (record { step = step; sends = on.0; marks = on.1 } ∷ []) on.2.each_fits).1.0

  module _ (step : Step) (p : ℕ) (within : IsNode n p) (event : Event) (here : events_at p step ≡ event ∷ []) where
    allowed_by : GoesOn n start ms step → AllowsEvent (nodes p) event
    allowed_by on =
        let m : Move = record { step = step; sends = on.0; marks = on.1 } in
        let happened = event_happened laws n start ms m before p within event here (on.2.ends.0 p, on.2.ends.1 p within.0 within.1) in
        (on.0, on.1, happened.0, subst (λ (x : NodeState). NodeEvent x event on.0 on.1 happened.0) (same_at p within) happened.1)

    on_by : ((sends : List Message) (marks : List Mark) → IsFit n ms step sends marks) → AllowsEvent (nodes p) event → GoesOn n start ms step
    on_by fit allows =
        let m : Move = record { step = step; sends = allows.0; marks = allows.1 } in
        (allows.0, allows.1, (event_goes_on laws.joins n start ms nodes p event m allows.2 run ends (fit allows.0 allows.1) here allows.3).0)

  pub ask_goes_on : (p client : ℕ) (name : List ℕ) (mode : Mode) → GoesOn n start ms (Ask p client name mode) ↔ (IsNode n p × MayAsk (resource_at (nodes p) name) client)
  ask_goes_on p client name mode =
      let step = Ask p client name mode in
      let event = acts.Ask client name mode in (
        λ on. let within = fit_of step on in (within, (laws.may_ask (nodes p) client name mode (consistent_at p within)).0 (allowed_by step p within event (at_node p event) on)),
        λ (within, may). on_by step p within event (at_node p event) (λ _ _. within) ((laws.may_ask (nodes p) client name mode (consistent_at p within)).1 may),
      )

  pub leave_goes_on : (p client : ℕ) (name : List ℕ) → GoesOn n start ms (Leave p client name) ↔ (IsNode n p × ((entry : Entry) × Holds (resource_at (nodes p) name) client entry))
  leave_goes_on p client name =
      let step = Leave p client name in
      let event = acts.Leave client name in (
        λ on. let within = fit_of step on in (within, (laws.may_leave (nodes p) client name (consistent_at p within)).0 (allowed_by step p within event (at_node p event) on)),
        λ (within, holds). on_by step p within event (at_node p event) (λ _ _. within) ((laws.may_leave (nodes p) client name (consistent_at p within)).1 holds),
      )

  pub cancel_goes_on : (p client : ℕ) (name : List ℕ) → GoesOn n start ms (Cancel p client name) ↔ (IsNode n p × IsKeptWaiting (resource_at (nodes p) name) client)
  cancel_goes_on p client name =
      let step = Cancel p client name in
      let event = acts.Cancel client name in (
        λ on. let within = fit_of step on in (within, (laws.may_cancel (nodes p) client name (consistent_at p within)).0 (allowed_by step p within event (at_node p event) on)),
        λ (within, kept). on_by step p within event (at_node p event) (λ _ _. within) ((laws.may_cancel (nodes p) client name (consistent_at p within)).1 kept),
      )

  pub forget_goes_on : (p : ℕ) → GoesOn n start ms (Forget p) ↔ IsNode n p
  forget_goes_on p = (
    λ on. fit_of (Forget p) on,
    λ within. on_by (Forget p) p within acts.Forget (at_node p acts.Forget) (λ _ _. within) (laws.may_forget (nodes p) (consistent_at p within)),
  )

  pub deliver_goes_on : (message : Message) → GoesOn n start ms (Deliver message) ↔ IsUnderWay ms message
  deliver_goes_on message =
      let step = Deliver message in
      let p = to_of message in (
        fit_of step,
        λ was.
            let within = (was_under_way laws n start ms before message was).traffic.to in
            on_by step p within (acts.Receive message) (at_node p (acts.Receive message)) (λ _ _. was) (laws.may_receive (nodes p) message (consistent_at p within)),
      )

  pub lose_goes_on : (message : Message) → GoesOn n start ms (Lose message) ↔ IsUnderWay ms message
  lose_goes_on message = (λ on. (fit_of (Lose message) on).0, λ was. ([], [], (loss_goes_on n start ms nodes message run ends was).0))

  pub repeat_goes_on : (message : Message) → GoesOn n start ms (Repeat message) ↔ IsUnderWay ms message
  repeat_goes_on message = (λ on. (fit_of (Repeat message) on).0, λ was. ([], [], (copy_goes_on n start ms nodes message run ends was).0))
