-- What is said of a step that is tried, from what a world keeps.
use Rattle.std.proofs.Common.{eq-eqb, ◌≡◌, ◌⊎◌, ◌↔◌, ℕ, ◌+◌, ◌<◌, ◌≤◌, List, Contains, ◌++◌, ◌∷◌, [], length, set, get_or, Option, Some, None, Result, Ok, Err, refl, sym, ap, ◌∙◌, subst, inl, inr, arith}
use Rattle.std.specs.Prelude.{IsErrAnd, IfSome, IsNone, IsOk, OnOk, ◌==◌, if◌then◌else◌}
use Rattle.std.proofs.lemmas.List.{set-get_or, get_or_default}
use Rattle.ra_stamp.specs.declared.message.Message.{Message}
use Rattle.ra_stamp.specs.declared.memory.Memory.{Memory as MemoryRefused}
use Rattle.ra_bag.specs.Bag.{TakesFirst, TakesOne}
use Rattle.ra_node.specs.declared.outcome.Outcome.{Outcome}
use Rattle.ra_stamp.specs.declared.mode.Mode.{Mode}
use Rattle.ra_stamp.specs.declared.entry.Entry.{Entry}
use Rattle.ra_stamp.specs.NodeId.{IsNodeNumber}
use Rattle.ra_node.specs.Resource.{Holds, IsKeptWaiting}
use Rattle.ra_node.specs.Turns.{MayAsk}
use Rattle.ra_node.specs.Events.{Event, NodeEvent}
use Rattle.ra_node.specs.Node.{NodeState, opening_node, resource_at}
use Rattle.ra_world.specs.declared.step.Step.{Step}
use Rattle.ra_world.specs.declared.step.Step.TheVariants.{Ask, Leave, Cancel}
use Rattle.ra_world.specs.declared.error.StepError.{StepError}
use Rattle.ra_world.specs.declared.error.StepError.TheVariants.{Memory}
use Rattle.ra_world.specs.Traffic.{Move, TakesEach, taken_in, repeated_by}
use Rattle.ra_world.specs.Run.{IsRun, IsFit, GoesOn, EndsWith, events_at}
use Rattle.ra_world.specs.World.{WorldState, HasCause, MayNeedMemory, IsFull, AtNode}
use Rattle.ra_world.specs.Keeping.{nodes_of, Keeps, IsShort, Tries}
use Rattle.ra_world.specs.StepLog.{LogState, HasRoom}

-- the world of these fields
abbrev pub shown : ℕ → List NodeState → List Move → WorldState
shown start nodes moves = record { count = length nodes; start = start; moves = moves }

-- an error that is known
pub at_err : {T E : Type 0} (r : Result T E) (P : E → Type 0) (Q : Result T E → Type 0) → IsErrAnd r P → ((e : E) → P e → Q (Err e)) → Q r
at_err (Ok v) P Q h f = absurd h
at_err (Err e) P Q h f = f e h

-- a refusal with its cause, which changed nothing
pub with_cause : (start : ℕ) (nodes : List NodeState) (moves : List Move) (w : WorldState) (step : Step) (cause : StepError)
    → shown start nodes moves ≡ w → HasCause (length nodes) start moves step cause
    → HasCause w.count w.start w.moves step cause ⊎ IsShort w step cause
with_cause start nodes moves w step cause is why = inl (subst (λ (v : WorldState). HasCause v.count v.start v.moves step cause) is why)

-- memory ran out for a step that could be made, and nothing changed
pub short : (start : ℕ) (nodes : List NodeState) (moves : List Move) (w now : WorldState) (step : Step) (r : Result Outcome StepError)
    → shown start nodes moves ≡ w → now ≡ shown start nodes moves → GoesOn (length nodes) start moves step
    → MayNeedMemory (length nodes) start moves step ⊎ IsFull moves → IsErrAnd r (λ e. e ≡ Memory) → Tries w step r now
short start nodes moves w now step r is same on needs fails =
    at_err r (λ e. e ≡ Memory) (λ q. Tries w step q now) fails
    (λ e memory. (
      same ∙ is,
      inr (record {
        is_memory = memory;
        goes_on = subst (λ (v : WorldState). GoesOn v.count v.start v.moves step) is on;
        needs = subst (λ (v : WorldState). MayNeedMemory v.count v.start v.moves step ⊎ IsFull v.moves) is needs;
      }),
    ))

-- the nodes with one of them put at its own place
pub same_nodes : (start : ℕ) (nodes : List NodeState) (moves moves' : List Move) (place : ℕ) (old new : NodeState)
    → old ≡ get_or nodes place old → new ≡ old → moves' ≡ moves → shown start (set nodes place new) moves' ≡ shown start nodes moves
same_nodes start nodes moves moves' place old new at same is =
    let nodes_are : set nodes place new ≡ nodes = ap (set nodes place) (same ∙ at) ∙ set-get_or nodes place old in
    λ i. shown start (nodes_are i) (is i)

-- a message is taken: the first one or, if nothing was repeated, the only one
pub took_first : (before left new : List Message) (message : Message) (moves moves' : List Move) → before ≡ left → moves' ≡ moves
    → TakesFirst before message new ⊎ ((repeated_by moves' ≡ []) × TakesOne before message new)
    → (repeated_by moves ≡ [] → TakesOne left message new → TakesFirst left message new)
    → TakesFirst left message new
took_first before left new message moves moves' same kept taken first =
    elim taken [
      | inl it ↦ subst (λ (ms : List Message). TakesFirst ms message new) same it
      | inr one ↦ first (ap repeated_by (sym kept) ∙ one.0) (subst (λ (ms : List Message). TakesOne ms message new) same one.1)
    ]

-- the first copy of a message under way is taken
pub first_is_taken : (r : Option Message) (old new : List Message) (message : Message) → Contains old message
    → IfSome r (λ taken. (taken ≡ message) × TakesFirst old message new) → (IsNone r → Contains old message → ⊥)
    → TakesFirst old message new
first_is_taken None old new message there taken none = absurd (none refl there)
first_is_taken (Some m) old new message there taken none = taken.1

-- a message is put after the others, if there is room for it
pub put_on : (r : Result (Unit {0}) MemoryRefused) (before left new : List Message) (message : Message)
    → OnOk r (new ≡ before ++ message ∷ []) → IsOk r → before ≡ left → new ≡ left ++ message ∷ []
put_on (Ok u) before left new message put ok same = put ∙ ap (λ (ms : List Message). ms ++ message ∷ []) same
put_on (Err e) before left new message put ok same = absurd (not_ok ok)
  where
    not_ok : IsOk {T = Unit {0}} (Err e) → ⊥
    not_ok is = cc

-- ---- At a node

-- the node at a place is the one with the number after it
pub node_here : (nodes : List NodeState) (place i : ℕ) (old : NodeState) → place + 1 ≡ i → place < length nodes → old ≡ get_or nodes place old
    → nodes_of nodes i ≡ old
node_here nodes place i old number within at =
    ap (λ (k : ℕ). get_or nodes k (opening_node 0 0 0)) (omega (arith, number)) ∙ get_or_default nodes place (opening_node 0 0 0) old within ∙ sym at

-- a fact about it
pub at_node : (start : ℕ) (nodes : List NodeState) (left : List Message) (moves : List Move) (place i : ℕ) (old : NodeState) (P : NodeState → Type 0)
    → Keeps start nodes left moves → place + 1 ≡ i → place < length nodes → old ≡ get_or nodes place old → P old
    → AtNode (length nodes) start moves i P
at_node start nodes left moves place i old P keeps number within at holds =
    record {
      first = omega (arith, number);
      last = omega (arith, number, within);
      nodes = nodes_of nodes;
      ends = keeps.ends;
      holds = subst P (sym (node_here nodes place i old number within at)) holds;
    }

-- an ask that its node allows
pub ask_on :
    ((n start : ℕ) (moves : List Move) (nodes : ℕ → NodeState)
    → IsNodeNumber n → IsRun n start moves → EndsWith n start moves nodes
    → (node client : ℕ) (name : List ℕ) (mode : Mode)
    → GoesOn n start moves (Ask node client name mode)
    ↔ (((1 ≤ node) × (node ≤ n)) × MayAsk (resource_at (nodes node) name) client))
    → (start : ℕ) (nodes : List NodeState) (left : List Message) (moves : List Move) (place i client : ℕ) (name : List ℕ) (mode : Mode) (old : NodeState)
    → Keeps start nodes left moves → place + 1 ≡ i → place < length nodes → old ≡ get_or nodes place old
    → MayAsk (resource_at old name) client → GoesOn (length nodes) start moves (Ask i client name mode)
ask_on law start nodes left moves place i client name mode old keeps number within at may =
    (law (length nodes) start moves (nodes_of nodes) keeps.count keeps.run keeps.ends i client name mode).1 (
      (omega (arith, number), omega (arith, number, within)),
      subst (λ (s : NodeState). MayAsk (resource_at s name) client) (sym (node_here nodes place i old number within at)) may,
    )

-- a leave that its node allows
pub leave_on :
    ((n start : ℕ) (moves : List Move) (nodes : ℕ → NodeState)
    → IsNodeNumber n → IsRun n start moves → EndsWith n start moves nodes
    → (node client : ℕ) (name : List ℕ)
    → GoesOn n start moves (Leave node client name)
    ↔ (((1 ≤ node) × (node ≤ n)) × ((entry : Entry) × Holds (resource_at (nodes node) name) client entry)))
    → (start : ℕ) (nodes : List NodeState) (left : List Message) (moves : List Move) (place i client : ℕ) (name : List ℕ) (old : NodeState)
    → Keeps start nodes left moves → place + 1 ≡ i → place < length nodes → old ≡ get_or nodes place old
    → (entry : Entry) × Holds (resource_at old name) client entry → GoesOn (length nodes) start moves (Leave i client name)
leave_on law start nodes left moves place i client name old keeps number within at may =
    (law (length nodes) start moves (nodes_of nodes) keeps.count keeps.run keeps.ends i client name).1 (
      (omega (arith, number), omega (arith, number, within)),
      subst (λ (s : NodeState). (entry : Entry) × Holds (resource_at s name) client entry) (sym (node_here nodes place i old number within at)) may,
    )

-- a cancel that its node allows
pub cancel_on :
    ((n start : ℕ) (moves : List Move) (nodes : ℕ → NodeState)
    → IsNodeNumber n → IsRun n start moves → EndsWith n start moves nodes
    → (node client : ℕ) (name : List ℕ)
    → GoesOn n start moves (Cancel node client name)
    ↔ (((1 ≤ node) × (node ≤ n)) × IsKeptWaiting (resource_at (nodes node) name) client))
    → (start : ℕ) (nodes : List NodeState) (left : List Message) (moves : List Move) (place i client : ℕ) (name : List ℕ) (old : NodeState)
    → Keeps start nodes left moves → place + 1 ≡ i → place < length nodes → old ≡ get_or nodes place old
    → IsKeptWaiting (resource_at old name) client → GoesOn (length nodes) start moves (Cancel i client name)
cancel_on law start nodes left moves place i client name old keeps number within at may =
    (law (length nodes) start moves (nodes_of nodes) keeps.count keeps.run keeps.ends i client name).1 (
      (omega (arith, number), omega (arith, number, within)),
      subst (λ (s : NodeState). IsKeptWaiting (resource_at s name) client) (sym (node_here nodes place i old number within at)) may,
    )

-- an event of the node at a place, in an own form
pub kept_by :
    ((start : ℕ) (nodes : List NodeState) (left next : List Message) (moves : List Move) (move : Move)
    (place : ℕ) (event : Event) (new : NodeState) → Keeps start nodes left moves → place < length nodes
    → IsFit (length nodes) moves move.step move.sends move.marks → events_at (place + 1) move.step ≡ event ∷ []
    → NodeEvent (nodes_of nodes (place + 1)) event move.sends move.marks new → TakesEach left (taken_in move.step) next
    → Keeps start (set nodes place new) (next ++ move.sends) (moves ++ move ∷ []))
    → (start : ℕ) (nodes : List NodeState) (left next after : List Message) (moves before logged : List Move) (move : Move)
    → (place i : ℕ) (event : Event) (old new : NodeState)
    → Keeps start nodes left moves → place + 1 ≡ i → place < length nodes → old ≡ get_or nodes place old
    → IsFit (length nodes) moves move.step move.sends move.marks → events_at i move.step ≡ event ∷ []
    → NodeEvent old event move.sends move.marks new → TakesEach left (taken_in move.step) next
    → after ≡ next ++ move.sends → before ≡ moves → logged ≡ before ++ move ∷ []
    → Keeps start (set nodes place new) after logged
kept_by law start nodes left next after moves before logged move place i event old new keeps number within at fit here happened takes after_is before_is logged_is =
    subst (λ (ms : List Message). Keeps start (set nodes place new) ms logged) (sym after_is)
    (subst (λ (ms : List Move). Keeps start (set nodes place new) (next ++ move.sends) ms) (sym (logged_is ∙ ap (λ ms. ms ++ move ∷ []) before_is))
    (law start nodes left next moves move place event new keeps within fit
    (subst (λ (k : ℕ). events_at k move.step ≡ event ∷ []) (sym number) here)
    (subst (λ (s : NodeState). NodeEvent s event move.sends move.marks new) (sym (node_here nodes place (place + 1) old refl within at)) happened)
    takes))

-- what happens at the node that a step is about
pub here : (i : ℕ) (event : Event) → (if i == i then event ∷ [] else []) ≡ event ∷ []
here i event = ap (λ b. if b then event ∷ [] else []) (eq-eqb i i refl)

-- room for the most is room for fewer
pub room_for : (log : LogState) (marks most : ℕ) → HasRoom log most → marks ≤ most → HasRoom log marks
room_for log marks most has few = record { for_step = has.for_step; for_marks = omega (arith, few, has.for_marks) }
