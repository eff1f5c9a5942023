-- A request that an event of a book ended is gone from the node after the event.
use Rattle.std.proofs.Common.{◌≡◌, ℕ, suc, List, [], ◌∷◌, ◌++◌, ◌⊎◌, map, Option, Some, None, refl, sym, ap, ◌∙◌, subst, arith, inl, inr}
use Rattle.std.specs.Prelude.{Contains, option_to_list}
use Rattle.std.proofs.lemmas.List.{map-append}
use Rattle.std.proofs.lemmas.List.Elements.{Contains-append_right}
use Rattle.ra_stamp.specs.declared.entry.Entry.{Entry}
use Rattle.ra_stamp.specs.declared.entry.Mark.{Mark}
use Rattle.ra_stamp.specs.declared.entry.Mark.TheVariants.{Left, Withdrawn}
use Rattle.ra_stamp.specs.declared.message.Message.{Message}
use Rattle.ra_automaton.specs.declared.phase.Phase.{Phase}
use Rattle.ra_automaton.specs.declared.phase.Phase.TheVariants.{Idle, Waiting, Inside}
use Rattle.ra_automaton.specs.State.{State}
use Rattle.ra_node.specs.declared.queued_client.Queued.{Queued}
use Rattle.ra_node.specs.Resource.{Resource, use_in, held_entry, waiting_entry, entry_of, Holds, Waits, IsBusy, clients_of}
use Rattle.ra_node.specs.Turns.{EndTurn, Leaves, LeaveTurn, Withdraws, CancelTurn, LeavesQueue}
use Rattle.ra_node.specs.Node.{NodeState, resource_at, with_resource, IsConsistentNode}
use Rattle.ra_node.specs.Events.Event.{Leave, Cancel}
use Rattle.ra_node.specs.Events.{NodeEvent}
use Rattle.ra_node.proofs.Distinct.{Once, standing, busy_is, queues_has, taken_apart}
use Rattle.ra_node.proofs.Lookups.{resource_changed}

-- ---- Whose request it is

holder_is : (s : State) (phase : Phase) (o : Option ℕ) (client : ℕ) (entry : Entry) → held_entry (use_in s phase o) ≡ Some entry → entry.client ≡ client → o ≡ Some client
holder_is s phase None client entry granted is = absurd cc
holder_is s Idle (Some c) client entry granted is = absurd cc
holder_is s (Waiting seq mode) (Some c) client entry granted is = absurd cc
holder_is s (Inside seq mode) (Some c) client entry granted is =
    let same : entry_of s.me s.name seq c mode ≡ entry = cc in
    ap (λ (x : ℕ). Some x) (ap (λ (e : Entry). e.client) same ∙ is)

waiter_is : (s : State) (phase : Phase) (o : Option ℕ) (client : ℕ) (entry : Entry) → waiting_entry (use_in s phase o) ≡ Some entry → entry.client ≡ client → o ≡ Some client
waiter_is s phase None client entry requested is = absurd cc
waiter_is s Idle (Some c) client entry requested is = absurd cc
waiter_is s (Inside seq mode) (Some c) client entry requested is = absurd cc
waiter_is s (Waiting seq mode) (Some c) client entry requested is =
    let same : entry_of s.me s.name seq c mode ≡ entry = cc in
    ap (λ (x : ℕ). Some x) (ap (λ (e : Entry). e.client) same ∙ is)

-- ---- A client that is here once

-- the current client is not queued
not_queued : (old : Resource) (client : ℕ) → old.client ≡ Some client → Once (clients_of old) → Contains (map (λ q. q.client) old.queue) client → ⊥
not_queued old client at once queued =
    let here = subst (λ (o : Option ℕ). Once (standing o old.queue)) at once in
    here 0 (suc queued.0) client (omega arith) (omega (arith, queued.1)) (sym queued.2)

queue_once : (client : Option ℕ) (queue : List Queued) → Once (standing client queue) → Once (map (λ q. q.client) queue)
queue_once None queue once = once
queue_once (Some c) queue once = λ i j d before within. once (suc i) (suc j) d (omega (arith, before)) (omega (arith, within))

-- ---- A request ends

-- it is not there once it has ended, whoever is next
ended : (Ends : Entry → List Message → Resource → Type 0) (mark : Entry → Mark) (old : Resource) (client : ℕ) (sends : List Message) (marks : List Mark) (new : Resource)
    → ((entry : Entry) (sends : List Message) (r : Resource) → Ends entry sends r → r.client ≡ None × (r.queue ≡ old.queue)) → old.client ≡ Some client → Once (clients_of old)
    → EndTurn Ends mark old sends marks new → IsBusy new client → ⊥
ended Ends mark old client sends marks new nobody at once turn busy =
    elim turn [
      | inl gone ↦
          let after = nobody gone.entry sends new gone.ends in
          not_queued old client at once
          (subst (λ (queue : List Queued). Contains (map (λ q. q.client) queue) client) after.1
          (subst (λ (o : Option ℕ). Contains (standing o new.queue) client) after.0 busy))
      | inr gone ↦
          not_queued old client at once
          (subst (λ (queue : List Queued). Contains (map (λ q. q.client) queue) client) (sym gone.queue_was)
          (subst (λ (queue : List Queued). Contains (standing (Some gone.next.client) queue) client) gone.asks.queue_is
          (subst (λ (o : Option ℕ). Contains (standing o new.queue) client) gone.asks.client_is busy)))
    ]

-- a client that left the queue is not in it
left_queue : (old : Resource) (client : ℕ) (sends : List Message) (marks : List Mark) (new : Resource) → Once (clients_of old) → LeavesQueue old client sends marks new → IsBusy new client → ⊥
left_queue old client sends marks new once left busy =
    let clients = λ (queue : List Queued). map (λ (q : Queued). q.client) queue in
    let was = subst (λ (queue : List Queued). Once (standing old.client queue)) left.queue_was once in
    elim ((busy_is new client).0 busy) [
      | inl at ↦
          let current : old.client ≡ Some client = sym (ap (λ (r : Resource). r.client) left.new_is) ∙ at in
          not_queued old client current once
          (subst (λ (queue : List Queued). Contains (clients queue) client) (sym left.queue_was)
          (subst (λ (cs : List ℕ). Contains cs client) (sym (map-append (λ (q : Queued). q.client) left.before (left.gone ∷ left.after)))
          (Contains-append_right (clients left.before) (left.gone.client ∷ clients left.after) client (0, omega arith, left.client_is))))
      | inr queued ↦
          taken_apart left.before left.gone left.after (queue_once old.client _ was)
          (subst (λ (c : ℕ). Contains (clients (left.before ++ left.after)) c) (sym left.client_is)
          (subst (λ (queue : List Queued). Contains (clients queue) client) (ap (λ (r : Resource). r.queue) left.new_is) (queues_has new.queue client queued)))
    ]

cancelled_turn : (old : Resource) (client : ℕ) (sends : List Message) (marks : List Mark) (new : Resource) → Once (clients_of old) → CancelTurn old client sends marks new → IsBusy new client → ⊥
cancelled_turn old client sends marks new once turn busy =
    elim turn [
      | inl left ↦ left_queue old client sends marks new once left busy
      | inr gone ↦ ended (Withdraws old client) Withdrawn old client sends marks new (λ entry replies r ends. (ends.client_is, ends.queue_is)) (at gone) once gone busy
    ]
  where
    at : EndTurn (Withdraws old client) Withdrawn old sends marks new → old.client ≡ Some client
    at gone = elim gone [
      | inl to ↦ waiter_is old.state old.state.phase old.client client to.entry to.ends.waits.requested to.ends.waits.client_is
      | inr to ↦ waiter_is old.state old.state.phase old.client client to.entry to.ends.waits.requested to.ends.waits.client_is
    ]

left_turn : (old : Resource) (client : ℕ) (sends : List Message) (marks : List Mark) (new : Resource) → Once (clients_of old) → LeaveTurn old client sends marks new → IsBusy new client → ⊥
left_turn old client sends marks new once turn busy =
    ended (Leaves old client) Left old client sends marks new (λ entry replies r ends. (ends.client_is, ends.queue_is)) (at turn) once turn busy
  where
    at : LeaveTurn old client sends marks new → old.client ≡ Some client
    at turn = elim turn [
      | inl to ↦ holder_is old.state old.state.phase old.client client to.entry to.ends.holds.granted to.ends.holds.client_is
      | inr to ↦ holder_is old.state old.state.phase old.client client to.entry to.ends.holds.granted to.ends.holds.client_is
    ]

-- ---- At a node

module _ (old new : NodeState) (client : ℕ) (name : List ℕ) (sends : List Message) (marks : List Mark) (consistent : IsConsistentNode old) where
  pub gone_by_cancel : NodeEvent old (Cancel client name) sends marks new → IsBusy (resource_at new name) client → ⊥
  gone_by_cancel event busy =
      cancelled_turn (resource_at old name) client sends marks event.resource (consistent.each name).once event.turn
      (subst (λ (r : Resource). IsBusy r client) (ap (λ (n : NodeState). resource_at n name) event.new_is ∙ resource_changed old name event.resource) busy)

  pub gone_by_leave : NodeEvent old (Leave client name) sends marks new → IsBusy (resource_at new name) client → ⊥
  gone_by_leave event busy =
      left_turn (resource_at old name) client sends marks event.resource (consistent.each name).once event.turn
      (subst (λ (r : Resource). IsBusy r client) (ap (λ (n : NodeState). resource_at n name) event.new_is ∙ resource_changed old name event.resource) busy)
