-- A step that has a cause is not one that the run goes on with, and it has one cause.
use Rattle.std.proofs.Common.{◌≡◌, ◌↔◌, ℕ, ◌≤◌, List, refl, subst, arith}
use Rattle.ra_stamp.specs.declared.entry.Entry.{Entry}
use Rattle.ra_stamp.specs.declared.message.Message.{Message}
use Rattle.ra_stamp.specs.declared.mode.Mode.{Mode}
use Rattle.ra_stamp.specs.NodeId.{IsNodeNumber}
use Rattle.ra_automaton.specs.Steps.{greatest_number}
use Rattle.ra_node.specs.Resource.{Holds, IsBusy, IsKeptWaiting}
use Rattle.ra_node.specs.Turns.{MayAsk}
use Rattle.ra_node.specs.Node.{NodeState, opening_node, resource_at}
use Rattle.ra_node.specs.Events.{Happening, NodeEvents}
use Rattle.ra_world.specs.declared.step.Step.{Step}
use Rattle.ra_world.specs.declared.step.Step.TheVariants.{Ask, Leave, Cancel, Deliver, Lose, Repeat, Forget}
use Rattle.ra_world.specs.declared.error.NodeRefusal.TheVariants.{Busy, Exhausted, NotHeld, NotWaiting}
use Rattle.ra_world.specs.declared.error.StepError.{StepError}
use Rattle.ra_world.specs.declared.error.StepError.TheVariants.{NoNode, NotUnderWay, Node, Memory}
use Rattle.ra_world.specs.Traffic.{Move, IsUnderWay}
use Rattle.ra_world.specs.Run.{IsRun, GoesOn, EndsWith, happened_at}
use Rattle.ra_world.specs.World.{HasCause, AtNode}

module _
    (may_ask : (n start : ℕ) (moves : List Move) (nodes : ℕ → NodeState)
    → IsNodeNumber n → IsRun n start moves → EndsWith n start moves nodes
    → (node client : ℕ) (name : List ℕ) (mode : Mode)
    → GoesOn n start moves (Ask node client name mode)
    ↔ (((1 ≤ node) × (node ≤ n)) × MayAsk (resource_at (nodes node) name) client))
    (may_leave : (n start : ℕ) (moves : List Move) (nodes : ℕ → NodeState)
    → IsNodeNumber n → IsRun n start moves → EndsWith n start moves nodes
    → (node client : ℕ) (name : List ℕ)
    → GoesOn n start moves (Leave node client name)
    ↔ (((1 ≤ node) × (node ≤ n)) × ((entry : Entry) × Holds (resource_at (nodes node) name) client entry)))
    (may_cancel : (n start : ℕ) (moves : List Move) (nodes : ℕ → NodeState)
    → IsNodeNumber n → IsRun n start moves → EndsWith n start moves nodes
    → (node client : ℕ) (name : List ℕ)
    → GoesOn n start moves (Cancel node client name)
    ↔ (((1 ≤ node) × (node ≤ n)) × IsKeptWaiting (resource_at (nodes node) name) client))
    (may_forget : (n start : ℕ) (moves : List Move) → IsNodeNumber n → IsRun n start moves
    → (node : ℕ) → GoesOn n start moves (Forget node) ↔ ((1 ≤ node) × (node ≤ n)))
    (may_deliver : (n start : ℕ) (moves : List Move) → IsNodeNumber n → IsRun n start moves
    → (message : Message) → GoesOn n start moves (Deliver message) ↔ IsUnderWay moves message)
    (may_lose : (n start : ℕ) (moves : List Move) → IsNodeNumber n → IsRun n start moves
    → (message : Message) → GoesOn n start moves (Lose message) ↔ IsUnderWay moves message)
    (may_repeat : (n start : ℕ) (moves : List Move) → IsNodeNumber n → IsRun n start moves
    → (message : Message) → GoesOn n start moves (Repeat message) ↔ IsUnderWay moves message)
  where
    pub no_step : (n start : ℕ) (moves : List Move) (step : Step) (cause : StepError) → IsNodeNumber n → IsRun n start moves
        → HasCause n start moves step cause → GoesOn n start moves step → ⊥
    no_step n start moves (Ask node client name mode) NoNode count run why on =
        let may = (may_ask n start moves run.ends.0 count run run.ends.1 node client name mode).0 on in
        omega (arith, why, may.0.1)
    no_step n start moves (Ask node client name mode) (Node Busy) count run why on =
        ((may_ask n start moves why.nodes count run why.ends node client name mode).0 on).1.not_busy why.holds
    no_step n start moves (Ask node client name mode) (Node Exhausted) count run why on =
        let may = (may_ask n start moves why.nodes count run why.ends node client name mode).0 on in
        omega (arith, may.1.number_left, why.holds.1)
    no_step n start moves (Ask node client name mode) (Node NotHeld) count run why on = absurd why
    no_step n start moves (Ask node client name mode) (Node NotWaiting) count run why on = absurd why
    no_step n start moves (Ask node client name mode) NotUnderWay count run why on = absurd why
    no_step n start moves (Ask node client name mode) Memory count run why on = absurd why
    no_step n start moves (Leave node client name) NoNode count run why on =
        let may = (may_leave n start moves run.ends.0 count run run.ends.1 node client name).0 on in
        omega (arith, why, may.0.1)
    no_step n start moves (Leave node client name) (Node Busy) count run why on = absurd why
    no_step n start moves (Leave node client name) (Node Exhausted) count run why on = absurd why
    no_step n start moves (Leave node client name) (Node NotHeld) count run why on =
        let may = (may_leave n start moves why.nodes count run why.ends node client name).0 on in
        why.holds may.1.0 may.1.1
    no_step n start moves (Leave node client name) (Node NotWaiting) count run why on = absurd why
    no_step n start moves (Leave node client name) NotUnderWay count run why on = absurd why
    no_step n start moves (Leave node client name) Memory count run why on = absurd why
    no_step n start moves (Cancel node client name) NoNode count run why on =
        let may = (may_cancel n start moves run.ends.0 count run run.ends.1 node client name).0 on in
        omega (arith, why, may.0.1)
    no_step n start moves (Cancel node client name) (Node Busy) count run why on = absurd why
    no_step n start moves (Cancel node client name) (Node Exhausted) count run why on = absurd why
    no_step n start moves (Cancel node client name) (Node NotHeld) count run why on = absurd why
    no_step n start moves (Cancel node client name) (Node NotWaiting) count run why on =
        why.holds ((may_cancel n start moves why.nodes count run why.ends node client name).0 on).1
    no_step n start moves (Cancel node client name) NotUnderWay count run why on = absurd why
    no_step n start moves (Cancel node client name) Memory count run why on = absurd why
    no_step n start moves (Forget node) NoNode count run why on = omega (arith, why, ((may_forget n start moves count run node).0 on).1)
    no_step n start moves (Forget node) (Node which) count run why on = absurd why
    no_step n start moves (Forget node) NotUnderWay count run why on = absurd why
    no_step n start moves (Forget node) Memory count run why on = absurd why
    no_step n start moves (Deliver message) NoNode count run why on = absurd why
    no_step n start moves (Deliver message) (Node which) count run why on = absurd why
    no_step n start moves (Deliver message) NotUnderWay count run why on = why ((may_deliver n start moves count run message).0 on)
    no_step n start moves (Deliver message) Memory count run why on = absurd why
    no_step n start moves (Lose message) NoNode count run why on = absurd why
    no_step n start moves (Lose message) (Node which) count run why on = absurd why
    no_step n start moves (Lose message) NotUnderWay count run why on = why ((may_lose n start moves count run message).0 on)
    no_step n start moves (Lose message) Memory count run why on = absurd why
    no_step n start moves (Repeat message) NoNode count run why on = absurd why
    no_step n start moves (Repeat message) (Node which) count run why on = absurd why
    no_step n start moves (Repeat message) NotUnderWay count run why on = why ((may_repeat n start moves count run message).0 on)
    no_step n start moves (Repeat message) Memory count run why on = absurd why

module _
    (determined : (old a b : NodeState) (happened : List Happening) → NodeEvents old happened a → NodeEvents old happened b → a ≡ b)
  where
    -- two facts about one node do not contradict each other
    both : (n start : ℕ) (moves : List Move) (i : ℕ) (P Q : NodeState → Type 0) → ((s : NodeState) → P s → Q s → ⊥)
        → AtNode n start moves i P → AtNode n start moves i Q → ⊥
    both n start moves i P Q apart p q =
        let same : p.nodes i ≡ q.nodes i = determined (opening_node i n start) (p.nodes i) (q.nodes i) (happened_at i moves) (p.ends i p.first p.last) (q.ends i q.first q.last) in
        apart (q.nodes i) (subst P same p.holds) q.holds

    one_ask : (n start : ℕ) (moves : List Move) (node client : ℕ) (name : List ℕ) (mode : Mode) (a b : StepError)
        → HasCause n start moves (Ask node client name mode) a → HasCause n start moves (Ask node client name mode) b → a ≡ b
    one_ask n start moves node client name mode NoNode NoNode p q = refl
    one_ask n start moves node client name mode NoNode (Node Busy) p q = absurd (omega (arith, p, q.last))
    one_ask n start moves node client name mode NoNode (Node Exhausted) p q = absurd (omega (arith, p, q.last))
    one_ask n start moves node client name mode (Node Busy) NoNode p q = absurd (omega (arith, q, p.last))
    one_ask n start moves node client name mode (Node Exhausted) NoNode p q = absurd (omega (arith, q, p.last))
    one_ask n start moves node client name mode (Node Busy) (Node Busy) p q = refl
    one_ask n start moves node client name mode (Node Exhausted) (Node Exhausted) p q = refl
    one_ask n start moves node client name mode (Node Busy) (Node Exhausted) p q =
        absurd (both n start moves node (λ s. IsBusy (resource_at s name) client) (λ s. (IsBusy (resource_at s name) client → ⊥) × ((resource_at s name).state.highest ≡ greatest_number)) (λ s busy free. free.0 busy) p q)
    one_ask n start moves node client name mode (Node Exhausted) (Node Busy) p q =
        absurd (both n start moves node (λ s. IsBusy (resource_at s name) client) (λ s. (IsBusy (resource_at s name) client → ⊥) × ((resource_at s name).state.highest ≡ greatest_number)) (λ s busy free. free.0 busy) q p)
    one_ask n start moves node client name mode (Node NotHeld) b p q = absurd p
    one_ask n start moves node client name mode (Node NotWaiting) b p q = absurd p
    one_ask n start moves node client name mode NotUnderWay b p q = absurd p
    one_ask n start moves node client name mode Memory b p q = absurd p
    one_ask n start moves node client name mode NoNode (Node NotHeld) p q = absurd q
    one_ask n start moves node client name mode NoNode (Node NotWaiting) p q = absurd q
    one_ask n start moves node client name mode NoNode NotUnderWay p q = absurd q
    one_ask n start moves node client name mode NoNode Memory p q = absurd q
    one_ask n start moves node client name mode (Node Busy) (Node NotHeld) p q = absurd q
    one_ask n start moves node client name mode (Node Busy) (Node NotWaiting) p q = absurd q
    one_ask n start moves node client name mode (Node Busy) NotUnderWay p q = absurd q
    one_ask n start moves node client name mode (Node Busy) Memory p q = absurd q
    one_ask n start moves node client name mode (Node Exhausted) (Node NotHeld) p q = absurd q
    one_ask n start moves node client name mode (Node Exhausted) (Node NotWaiting) p q = absurd q
    one_ask n start moves node client name mode (Node Exhausted) NotUnderWay p q = absurd q
    one_ask n start moves node client name mode (Node Exhausted) Memory p q = absurd q

    one_leave : (n start : ℕ) (moves : List Move) (node client : ℕ) (name : List ℕ) (a b : StepError)
        → HasCause n start moves (Leave node client name) a → HasCause n start moves (Leave node client name) b → a ≡ b
    one_leave n start moves node client name NoNode NoNode p q = refl
    one_leave n start moves node client name (Node NotHeld) (Node NotHeld) p q = refl
    one_leave n start moves node client name NoNode (Node NotHeld) p q = absurd (omega (arith, p, q.last))
    one_leave n start moves node client name (Node NotHeld) NoNode p q = absurd (omega (arith, q, p.last))
    one_leave n start moves node client name (Node Busy) b p q = absurd p
    one_leave n start moves node client name (Node Exhausted) b p q = absurd p
    one_leave n start moves node client name NotUnderWay b p q = absurd p
    one_leave n start moves node client name Memory b p q = absurd p
    one_leave n start moves node client name NoNode (Node Busy) p q = absurd q
    one_leave n start moves node client name NoNode (Node Exhausted) p q = absurd q
    one_leave n start moves node client name NoNode NotUnderWay p q = absurd q
    one_leave n start moves node client name NoNode Memory p q = absurd q
    one_leave n start moves node client name (Node NotHeld) (Node Busy) p q = absurd q
    one_leave n start moves node client name (Node NotHeld) (Node Exhausted) p q = absurd q
    one_leave n start moves node client name (Node NotHeld) NotUnderWay p q = absurd q
    one_leave n start moves node client name (Node NotHeld) Memory p q = absurd q
    one_leave n start moves node client name (Node NotWaiting) b p q = absurd p
    one_leave n start moves node client name NoNode (Node NotWaiting) p q = absurd q
    one_leave n start moves node client name (Node NotHeld) (Node NotWaiting) p q = absurd q

    one_cancel : (n start : ℕ) (moves : List Move) (node client : ℕ) (name : List ℕ) (a b : StepError)
        → HasCause n start moves (Cancel node client name) a → HasCause n start moves (Cancel node client name) b → a ≡ b
    one_cancel n start moves node client name NoNode NoNode p q = refl
    one_cancel n start moves node client name (Node NotWaiting) (Node NotWaiting) p q = refl
    one_cancel n start moves node client name NoNode (Node NotWaiting) p q = absurd (omega (arith, p, q.last))
    one_cancel n start moves node client name (Node NotWaiting) NoNode p q = absurd (omega (arith, q, p.last))
    one_cancel n start moves node client name (Node Busy) b p q = absurd p
    one_cancel n start moves node client name (Node Exhausted) b p q = absurd p
    one_cancel n start moves node client name NotUnderWay b p q = absurd p
    one_cancel n start moves node client name Memory b p q = absurd p
    one_cancel n start moves node client name NoNode (Node Busy) p q = absurd q
    one_cancel n start moves node client name NoNode (Node Exhausted) p q = absurd q
    one_cancel n start moves node client name NoNode NotUnderWay p q = absurd q
    one_cancel n start moves node client name NoNode Memory p q = absurd q
    one_cancel n start moves node client name (Node NotWaiting) (Node Busy) p q = absurd q
    one_cancel n start moves node client name (Node NotWaiting) (Node Exhausted) p q = absurd q
    one_cancel n start moves node client name (Node NotWaiting) NotUnderWay p q = absurd q
    one_cancel n start moves node client name (Node NotWaiting) Memory p q = absurd q
    one_cancel n start moves node client name (Node NotHeld) b p q = absurd p
    one_cancel n start moves node client name NoNode (Node NotHeld) p q = absurd q
    one_cancel n start moves node client name (Node NotWaiting) (Node NotHeld) p q = absurd q

    one_delivery : (n start : ℕ) (moves : List Move) (message : Message) (a : StepError)
        → HasCause n start moves (Deliver message) a → a ≡ NotUnderWay
    one_delivery n start moves message NoNode p = absurd p
    one_delivery n start moves message (Node why) p = absurd p
    one_delivery n start moves message NotUnderWay p = refl
    one_delivery n start moves message Memory p = absurd p

    one_loss : (n start : ℕ) (moves : List Move) (message : Message) (a : StepError)
        → HasCause n start moves (Lose message) a → a ≡ NotUnderWay
    one_loss n start moves message NoNode p = absurd p
    one_loss n start moves message (Node why) p = absurd p
    one_loss n start moves message NotUnderWay p = refl
    one_loss n start moves message Memory p = absurd p

    one_copy : (n start : ℕ) (moves : List Move) (message : Message) (a : StepError)
        → HasCause n start moves (Repeat message) a → a ≡ NotUnderWay
    one_copy n start moves message NoNode p = absurd p
    one_copy n start moves message (Node why) p = absurd p
    one_copy n start moves message NotUnderWay p = refl
    one_copy n start moves message Memory p = absurd p

    pub one_cause : (n start : ℕ) (moves : List Move) (step : Step) (a b : StepError)
        → HasCause n start moves step a → HasCause n start moves step b → a ≡ b
    one_cause n start moves (Ask node client name mode) a b p q = one_ask n start moves node client name mode a b p q
    one_cause n start moves (Leave node client name) a b p q = one_leave n start moves node client name a b p q
    one_cause n start moves (Cancel node client name) a b p q = one_cancel n start moves node client name a b p q
    one_cause n start moves (Forget node) NoNode NoNode p q = refl
    one_cause n start moves (Forget node) (Node why) b p q = absurd p
    one_cause n start moves (Forget node) NotUnderWay b p q = absurd p
    one_cause n start moves (Forget node) Memory b p q = absurd p
    one_cause n start moves (Forget node) NoNode (Node why) p q = absurd q
    one_cause n start moves (Forget node) NoNode NotUnderWay p q = absurd q
    one_cause n start moves (Forget node) NoNode Memory p q = absurd q
    one_cause n start moves (Deliver message) a b p q =
        let x = one_delivery n start moves message a p in
        let y = one_delivery n start moves message b q in
        cc
    one_cause n start moves (Lose message) a b p q =
        let x = one_loss n start moves message a p in
        let y = one_loss n start moves message b q in
        cc
    one_cause n start moves (Repeat message) a b p q =
        let x = one_copy n start moves message a p in
        let y = one_copy n start moves message b q in
        cc
