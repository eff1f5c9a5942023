-- What is said of a step that is tried as an event of a node.
use Rattle.std.proofs.Common.{◌≡◌, ◌⊎◌, ◌↔◌, ℕ, ◌+◌, ◌<◌, ◌≤◌, List, ◌++◌, ◌∷◌, [], length, set, get_or, Result, Ok, Err, refl, sym, ◌∙◌, subst, inl, inr}
use Rattle.ra_stamp.specs.declared.message.Message.{Message}
use Rattle.ra_stamp.specs.Message.{to_of}
use Rattle.ra_stamp.specs.declared.mode.Mode.{Mode}
use Rattle.ra_stamp.specs.declared.entry.Entry.{Entry}
use Rattle.ra_stamp.specs.declared.entry.Mark.{Mark}
use Rattle.ra_stamp.specs.NodeId.{IsNodeNumber}
use Rattle.ra_bag.specs.Bag.{TakesFirst, TakesOne}
use Rattle.ra_automaton.specs.State.{IsForNode}
use Rattle.ra_automaton.specs.Steps.{greatest_number}
use Rattle.ra_node.specs.declared.outcome.Outcome.{Outcome}
use Rattle.ra_node.specs.declared.error.AskError.{AskError}
use Rattle.ra_node.specs.declared.error.AskError.TheVariants as ask
use Rattle.ra_node.specs.declared.error.CancelError.{CancelError}
use Rattle.ra_node.specs.declared.error.CancelError.TheVariants as cancel
use Rattle.ra_node.specs.declared.error.LeaveError.{LeaveError}
use Rattle.ra_node.specs.declared.error.LeaveError.TheVariants as leave
use Rattle.ra_node.specs.Resource.{IsBusy, Holds, IsKeptWaiting}
use Rattle.ra_node.specs.Turns.{MayAsk}
use Rattle.ra_node.specs.Memory.{BringsNothing}
use Rattle.ra_node.specs.Events.{Event, NodeEvent}
use Rattle.ra_node.specs.Events.{Event as acts}
use Rattle.ra_node.specs.Node.{NodeState, resource_at}
use Rattle.ra_world.specs.declared.step.Step.{Step}
use Rattle.ra_world.specs.declared.step.Step.TheVariants.{Ask, Leave, Cancel, Deliver, Forget}
use Rattle.ra_world.specs.declared.error.NodeRefusal.TheVariants.{Busy, Exhausted, NotHeld, NotWaiting}
use Rattle.ra_world.specs.declared.error.StepError.{StepError}
use Rattle.ra_world.specs.declared.error.StepError.TheVariants.{NoNode, NotUnderWay, Node, Memory}
use Rattle.ra_world.specs.declared.world.kept_steps.KeptSteps.{KeptSteps}
use Rattle.ra_world.specs.Traffic.{Move, TakesEach, taken_in, repeated_by}
use Rattle.ra_world.specs.Run.{IsRun, IsFit, GoesOn, EndsWith, events_at}
use Rattle.ra_world.specs.World.{WorldState, HasCause}
use Rattle.ra_world.specs.Keeping.{nodes_of, Keeps, IsShort, Tries}
use Rattle.ra_world.specs.Trying.{TakesEqual, LeavesOthers, IsEventRefusal, TriesAt}
use Rattle.ra_world.specs.Refused.{refusal_of_ask, refusal_of_leave, refusal_of_cancel}
use Rattle.ra_world.proofs.StepTries.{shown, same_nodes, at_node, node_here, ask_on, leave_on, cancel_on, kept_by, here}
use Rattle.ra_world.proofs.AtPlace.{number_of, kept_back, moved}

-- ---- Why a node refuses

-- the refusal of an ask, as the cause of a step
pub ask_refused : (s : NodeState) (moves : List Move) (client : ℕ) (name : List ℕ) (mode : Mode) (e : AskError) (cause : StepError)
    → cause ≡ refusal_of_ask e
    → (e ≡ ask.Busy → IsBusy (resource_at s name) client)
    → (e ≡ ask.Exhausted → (IsBusy (resource_at s name) client → ⊥) × ((resource_at s name).state.highest ≡ greatest_number))
    → (e ≡ ask.Memory → MayAsk (resource_at s name) client)
    → IsEventRefusal s moves (acts.Ask client name mode) cause
ask_refused s moves client name mode ask.Busy cause is busy exhausted may =
    subst (IsEventRefusal s moves (acts.Ask client name mode)) (sym is) (busy refl)
ask_refused s moves client name mode ask.Exhausted cause is busy exhausted may =
    subst (IsEventRefusal s moves (acts.Ask client name mode)) (sym is) (exhausted refl)
ask_refused s moves client name mode ask.Memory cause is busy exhausted may =
    subst (IsEventRefusal s moves (acts.Ask client name mode)) (sym is) (may refl)

-- the refusal of a leave
pub leave_refused : (s : NodeState) (moves : List Move) (client : ℕ) (name : List ℕ) (e : LeaveError) (cause : StepError)
    → cause ≡ refusal_of_leave e
    → (e ≡ leave.NotHeld → (entry : Entry) → Holds (resource_at s name) client entry → ⊥)
    → (e ≡ leave.Memory → (entry : Entry) × Holds (resource_at s name) client entry)
    → IsEventRefusal s moves (acts.Leave client name) cause
leave_refused s moves client name leave.NotHeld cause is free may =
    subst (IsEventRefusal s moves (acts.Leave client name)) (sym is) (free refl)
leave_refused s moves client name leave.Memory cause is free may =
    subst (IsEventRefusal s moves (acts.Leave client name)) (sym is) (may refl)

-- the refusal of a cancel
pub cancel_refused : (s : NodeState) (moves : List Move) (client : ℕ) (name : List ℕ) (e : CancelError) (cause : StepError)
    → cause ≡ refusal_of_cancel e
    → (e ≡ cancel.NotWaiting → IsKeptWaiting (resource_at s name) client → ⊥)
    → (e ≡ cancel.Memory → IsKeptWaiting (resource_at s name) client)
    → IsEventRefusal s moves (acts.Cancel client name) cause
cancel_refused s moves client name cancel.NotWaiting cause is free may =
    subst (IsEventRefusal s moves (acts.Cancel client name)) (sym is) (free refl)
cancel_refused s moves client name cancel.Memory cause is free may =
    subst (IsEventRefusal s moves (acts.Cancel client name)) (sym is) (may refl)

-- ---- A step that is tried at the node of a place

-- its outcome for the world
tried_at : {keeps : ℕ} (start : ℕ) (nodes : List NodeState) (kept kept' : KeptSteps keeps) (place : ℕ) (w : WorldState) (step : Step) (event : Event)
    (old new : NodeState) (r : Result Outcome StepError)
    → shown start nodes kept.log.moves ≡ w → old ≡ get_or nodes place old
    → ((cause : StepError) → IsEventRefusal old kept.log.moves event cause
    → HasCause (length nodes) start kept.log.moves step cause ⊎ IsShort (shown start nodes kept.log.moves) step cause)
    → TriesAt step event old kept r new kept' → Tries w step r (shown start (set nodes place new) kept'.log.moves)
tried_at start nodes kept kept' place w step event old new (Ok outcome) is at why tried =
    moved start nodes kept.log.moves kept.log.moves kept'.log.moves w place new step outcome.sends.items outcome.marks.items is refl tried.2
tried_at start nodes kept kept' place w step event old new (Err cause) is at why tried = (
  same_nodes start nodes kept.log.moves kept'.log.moves place old new at tried.0 tried.2 ∙ is,
  subst (λ (v : WorldState). HasCause v.count v.start v.moves step cause ⊎ IsShort v step cause) is (why cause tried.3),
)

module _
    (law :
    (start : ℕ) (nodes : List NodeState) (left next : List Message) (moves : List Move) (move : Move)
    (place : ℕ) (event : Event) (new : NodeState) → Keeps start nodes left moves → place < length nodes
    → IsFit (length nodes) moves move.step move.sends move.marks → events_at (place + 1) move.step ≡ event ∷ []
    → NodeEvent (nodes_of nodes (place + 1)) event move.sends move.marks new → TakesEach left (taken_in move.step) next
    → Keeps start (set nodes place new) (next ++ move.sends) (moves ++ move ∷ []))
    {keeps : ℕ} (start : ℕ) (nodes : List NodeState) (kept kept' : KeptSteps keeps) (place i : ℕ) (w : WorldState) (step : Step) (old new : NodeState)
    (r : Result Outcome StepError)
    (keeps_run : Keeps start nodes kept.under_way.items kept.log.moves) (number : place + 1 ≡ i) (within : place < length nodes)
    (at : old ≡ get_or nodes place old) (is : shown start nodes kept.log.moves ≡ w)
  where
    -- what is kept after it
    kept_at : (this : Step) (event : Event) (q : Result Outcome StepError)
        → ((sends : List Message) (marks : List Mark) → IsFit (length nodes) kept.log.moves this sends marks) → events_at i this ≡ event ∷ []
        → ((left : List Message) → LeavesOthers kept.log.moves kept.under_way.items event left → TakesEach kept.under_way.items (taken_in this) left)
        → TriesAt this event old kept q new kept' → Keeps start (set nodes place new) kept'.under_way.items kept'.log.moves
    kept_at this event (Ok outcome) fit one takes tried =
        kept_by law start nodes kept.under_way.items tried.1.0 kept'.under_way.items kept.log.moves kept.log.moves kept'.log.moves
        (record { step = this; sends = outcome.sends.items; marks = outcome.marks.items })
        place i event old new keeps_run number within at (fit outcome.sends.items outcome.marks.items) one tried.0 (takes tried.1.0 tried.1.1) tried.1.2 refl tried.2
    kept_at this event (Err cause) fit one takes tried =
        kept_back start nodes kept.under_way.items kept'.under_way.items kept.log.moves kept'.log.moves place old new keeps_run tried.1 tried.2 at tried.0

    -- an ask
    pub asked :
        ((n start : ℕ) (moves : List Move) (nodes : ℕ → NodeState)
        → IsNodeNumber n → IsRun n start moves → EndsWith n start moves nodes
        → (node client : ℕ) (name : List ℕ) (mode : Mode)
        → GoesOn n start moves (Ask node client name mode)
        ↔ (((1 ≤ node) × (node ≤ n)) × MayAsk (resource_at (nodes node) name) client))
        → (client : ℕ) (name : List ℕ) (mode : Mode) → step ≡ Ask i client name mode
        → TriesAt step (acts.Ask client name mode) old kept r new kept'
        → Tries w (Ask i client name mode) r (shown start (set nodes place new) kept'.log.moves)
        × Keeps start (set nodes place new) kept'.under_way.items kept'.log.moves
    asked allowed client name mode this tried =
        let event = acts.Ask client name mode in
        let tries = subst (λ (s : Step). TriesAt s event old kept r new kept') this tried in (
          tried_at start nodes kept kept' place w (Ask i client name mode) event old new r is at why tries,
          kept_at (Ask i client name mode) event r (λ sends marks. number_of nodes place i number within) (here i event) (λ left all. all) tries,
        )
      where
        why : (cause : StepError) → IsEventRefusal old kept.log.moves (acts.Ask client name mode) cause
            → HasCause (length nodes) start kept.log.moves (Ask i client name mode) cause
            ⊎ IsShort (shown start nodes kept.log.moves) (Ask i client name mode) cause
        why NoNode refused = absurd refused
        why NotUnderWay refused = absurd refused
        why (Node Busy) busy = inl (at_node start nodes kept.under_way.items kept.log.moves place i old (λ s. IsBusy (resource_at s name) client) keeps_run number within at busy)
        why (Node Exhausted) exhausted =
            inl (at_node start nodes kept.under_way.items kept.log.moves place i old
            (λ s. (IsBusy (resource_at s name) client → ⊥) × ((resource_at s name).state.highest ≡ greatest_number)) keeps_run number within at exhausted)
        why (Node NotHeld) refused = absurd refused
        why (Node NotWaiting) refused = absurd refused
        why Memory may = inr (record {
          is_memory = refl;
          goes_on = ask_on allowed start nodes kept.under_way.items kept.log.moves place i client name mode old keeps_run number within at may;
          needs = inl tt;
        })

    -- a leave
    pub left :
        ((n start : ℕ) (moves : List Move) (nodes : ℕ → NodeState)
        → IsNodeNumber n → IsRun n start moves → EndsWith n start moves nodes
        → (node client : ℕ) (name : List ℕ)
        → GoesOn n start moves (Leave node client name)
        ↔ (((1 ≤ node) × (node ≤ n)) × ((entry : Entry) × Holds (resource_at (nodes node) name) client entry)))
        → (client : ℕ) (name : List ℕ) → step ≡ Leave i client name
        → TriesAt step (acts.Leave client name) old kept r new kept'
        → Tries w (Leave i client name) r (shown start (set nodes place new) kept'.log.moves)
        × Keeps start (set nodes place new) kept'.under_way.items kept'.log.moves
    left allowed client name this tried =
        let event = acts.Leave client name in
        let tries = subst (λ (s : Step). TriesAt s event old kept r new kept') this tried in (
          tried_at start nodes kept kept' place w (Leave i client name) event old new r is at why tries,
          kept_at (Leave i client name) event r (λ sends marks. number_of nodes place i number within) (here i event) (λ left all. all) tries,
        )
      where
        why : (cause : StepError) → IsEventRefusal old kept.log.moves (acts.Leave client name) cause
            → HasCause (length nodes) start kept.log.moves (Leave i client name) cause
            ⊎ IsShort (shown start nodes kept.log.moves) (Leave i client name) cause
        why NoNode refused = absurd refused
        why NotUnderWay refused = absurd refused
        why (Node Busy) refused = absurd refused
        why (Node Exhausted) refused = absurd refused
        why (Node NotWaiting) refused = absurd refused
        why (Node NotHeld) free =
            inl (at_node start nodes kept.under_way.items kept.log.moves place i old (λ s. (entry : Entry) → Holds (resource_at s name) client entry → ⊥) keeps_run number within at free)
        why Memory may = inr (record {
          is_memory = refl;
          goes_on = leave_on allowed start nodes kept.under_way.items kept.log.moves place i client name old keeps_run number within at may;
          needs = inl tt;
        })

    -- a client gives up
    pub given_up :
        ((n start : ℕ) (moves : List Move) (nodes : ℕ → NodeState)
        → IsNodeNumber n → IsRun n start moves → EndsWith n start moves nodes
        → (node client : ℕ) (name : List ℕ)
        → GoesOn n start moves (Cancel node client name)
        ↔ (((1 ≤ node) × (node ≤ n)) × IsKeptWaiting (resource_at (nodes node) name) client))
        → (client : ℕ) (name : List ℕ) → step ≡ Cancel i client name
        → TriesAt step (acts.Cancel client name) old kept r new kept'
        → Tries w (Cancel i client name) r (shown start (set nodes place new) kept'.log.moves)
        × Keeps start (set nodes place new) kept'.under_way.items kept'.log.moves
    given_up allowed client name this tried =
        let event = acts.Cancel client name in
        let tries = subst (λ (s : Step). TriesAt s event old kept r new kept') this tried in (
          tried_at start nodes kept kept' place w (Cancel i client name) event old new r is at why tries,
          kept_at (Cancel i client name) event r (λ sends marks. number_of nodes place i number within) (here i event) (λ left all. all) tries,
        )
      where
        why : (cause : StepError) → IsEventRefusal old kept.log.moves (acts.Cancel client name) cause
            → HasCause (length nodes) start kept.log.moves (Cancel i client name) cause
            ⊎ IsShort (shown start nodes kept.log.moves) (Cancel i client name) cause
        why NoNode refused = absurd refused
        why NotUnderWay refused = absurd refused
        why (Node Busy) refused = absurd refused
        why (Node Exhausted) refused = absurd refused
        why (Node NotHeld) refused = absurd refused
        why (Node NotWaiting) free =
            inl (at_node start nodes kept.under_way.items kept.log.moves place i old (λ s. IsKeptWaiting (resource_at s name) client → ⊥) keeps_run number within at free)
        why Memory may = inr (record {
          is_memory = refl;
          goes_on = cancel_on allowed start nodes kept.under_way.items kept.log.moves place i client name old keeps_run number within at may;
          needs = inl tt;
        })

    -- a node forgets
    pub forgot :
        ((n start : ℕ) (moves : List Move) → IsNodeNumber n → IsRun n start moves → (node : ℕ) → GoesOn n start moves (Forget node) ↔ ((1 ≤ node) × (node ≤ n)))
        → step ≡ Forget i → TriesAt step acts.Forget old kept r new kept'
        → Tries w (Forget i) r (shown start (set nodes place new) kept'.log.moves)
        × Keeps start (set nodes place new) kept'.under_way.items kept'.log.moves
    forgot allowed this tried =
        let tries = subst (λ (s : Step). TriesAt s acts.Forget old kept r new kept') this tried in (
          tried_at start nodes kept kept' place w (Forget i) acts.Forget old new r is at why tries,
          kept_at (Forget i) acts.Forget r (λ sends marks. number_of nodes place i number within) (here i acts.Forget) (λ left all. all) tries,
        )
      where
        why : (cause : StepError) → IsEventRefusal old kept.log.moves acts.Forget cause
            → HasCause (length nodes) start kept.log.moves (Forget i) cause
            ⊎ IsShort (shown start nodes kept.log.moves) (Forget i) cause
        why NoNode refused = absurd refused
        why NotUnderWay refused = absurd refused
        why (Node which) refused = absurd refused
        why Memory full = inr (record {
          is_memory = refl;
          goes_on = (allowed (length nodes) start kept.log.moves keeps_run.count keeps_run.run i).1 (number_of nodes place i number within);
          needs = inr full;
        })

    -- a message that is under way
    pub received : (message : Message)
        → GoesOn (length nodes) start kept.log.moves (Deliver message)
        → ((sends : List Message) (marks : List Mark) → IsFit (length nodes) kept.log.moves (Deliver message) sends marks)
        → ((next : List Message) → repeated_by kept.log.moves ≡ [] → TakesOne kept.under_way.items message next → TakesFirst kept.under_way.items message next)
        → to_of message ≡ i → step ≡ Deliver message
        → TriesAt step (acts.Receive message) old kept r new kept'
        → Tries w (Deliver message) r (shown start (set nodes place new) kept'.log.moves)
        × Keeps start (set nodes place new) kept'.under_way.items kept'.log.moves
    received message on fit first to this tried =
        let event = acts.Receive message in
        let tries = subst (λ (s : Step). TriesAt s event old kept r new kept') this tried in (
          tried_at start nodes kept kept' place w (Deliver message) event old new r is at why tries,
          kept_at (Deliver message) event r fit
              (subst (λ (k : ℕ). events_at k (Deliver message) ≡ event ∷ []) to (here (to_of message) event))
              (λ left taken. (left, takes left taken, refl)) tries,
        )
      where
        takes : (next : List Message) → TakesEqual kept.log.moves kept.under_way.items message next → TakesFirst kept.under_way.items message next
        takes next taken = elim taken [ inl it ↦ it | inr one ↦ first next one.0 one.1 ]

        why : (cause : StepError) → IsEventRefusal old kept.log.moves (acts.Receive message) cause
            → HasCause (length nodes) start kept.log.moves (Deliver message) cause
            ⊎ IsShort (shown start nodes kept.log.moves) (Deliver message) cause
        why NoNode refused = absurd refused
        why NotUnderWay refused = absurd refused
        why (Node because) refused = absurd refused
        why Memory short = inr (record {
          is_memory = refl;
          goes_on = on;
          needs = elim short [
            | inl brings ↦ inl (at_node start nodes kept.under_way.items kept.log.moves place (to_of message) old (λ s. BringsNothing s message → ⊥) keeps_run (number ∙ sym to) within at brings)
            | inr full ↦ inr full
          ];
        })

-- ---- A message that is taken to its node

-- a message is taken from lists that are equal to these
pub taken_as : (before left new : List Message) (message : Message) (moves moves' : List Move) → before ≡ left → moves' ≡ moves
    → TakesEqual moves' before message new → TakesEqual moves left message new
taken_as before left new message moves moves' same is taken =
    subst (λ (ms : List Move). TakesEqual ms left message new) is (subst (λ (ls : List Message). TakesEqual moves' ls message new) same taken)

-- the node at its place is its receiver
pub for_node : (nodes : List NodeState) (place i : ℕ) (old : NodeState) (message : Message) → place + 1 ≡ i → place < length nodes → old ≡ get_or nodes place old
    → IsForNode (nodes_of nodes i).me (nodes_of nodes i).nodes message → IsForNode old.me old.nodes message
for_node nodes place i old message number within at it =
    subst (λ (s : NodeState). IsForNode s.me s.nodes message) (node_here nodes place i old number within at) it
