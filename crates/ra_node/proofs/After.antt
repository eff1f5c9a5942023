-- What a turn at the slot of a name makes of a node.
use Rattle.std.proofs.Common.{◌≡◌, ℕ, false, List, [], Option, Some, None, Result, Ok, Err, IfOk, OnErr, MatchResult, IsSome, refl, sym, ap, ◌∙◌, subst, arith, inl, inr}
use Rattle.std.specs.Prelude.{unwrap_or}
use Rattle.std.specs.Str.{bytes_eq}
use Rattle.std.specs.Map.{lookup, set_value}
use Rattle.std.specs.FinMap as finmap
use Rattle.std.proofs.lemmas.Map.Steps.{set_value_same}
use Rattle.std.proofs.lemmas.Option.{none-some}
use Rattle.std.specs.HashMap.{HashMap, WritesThrough}
use Rattle.ra_stamp.specs.declared.mode.Mode.{Mode}
use Rattle.ra_stamp.specs.declared.message.Message.{Message}
use Rattle.ra_stamp.specs.declared.message.Message.TheVariants.{Request, Reply}
use Rattle.ra_automaton.specs.declared.phase.Phase.TheVariants.{Idle, Waiting}
use Rattle.ra_stamp.specs.declared.entry.Entry.{Entry}
use Rattle.ra_stamp.specs.declared.entry.Mark.{Mark}
use Rattle.ra_stamp.specs.Message.{name_of}
use Rattle.ra_automaton.specs.State.{IsConsistent}
use Rattle.ra_node.specs.declared.outcome.Outcome.{Outcome}
use Rattle.ra_node.specs.Resource.{Resource, unmet, Holds, holder_of, waiter_of, IsQueued, IsKeptWaiting, IsConsistentResource}
use Rattle.ra_node.specs.Turns.{AskTurn, LeaveTurn, CancelTurn, ReceiveTurn, IsStrayAt}
use Rattle.ra_node.specs.Node.{NodeState, resource_at, with_resource, waiting_count, queued_count, IsConsistentNode}
use Rattle.ra_node.specs.Events.{AskEvent, LeaveEvent, CancelEvent, ReceiveEvent}
use Rattle.ra_node.specs.declared.node.Node.TheInside.{Inside}
use Rattle.ra_node.specs.View.{node_with, Finds, excess_of, IsKept}
use Rattle.ra_node.proofs.Kept.{ask_kept, leave_kept, cancel_kept, receive_kept}
use Rattle.ra_node.proofs.NodeLemmas.{found, after_update}
use Rattle.ra_node.proofs.Updates.{stray_stays}

-- this slot was found at a name, and the slots afterwards have the new one there and all others as before
pub record IsWritten (slots : List (List ℕ × Resource)) (name : List ℕ) (slot new : Resource) (slots' : List (List ℕ × Resource)) : Type 0 where
  pub was : Some slot ≡ lookup (bytes_eq name) slots
  pub slots_are : slots' ≡ set_value (bytes_eq name) slots new
  pub finds : Finds slots slots' name new

module _ (me nodes start : ℕ) (slots : List (List ℕ × Resource)) (now : NodeState) (is : node_with me nodes start slots ≡ now) (kept : IsConsistentNode now) (slot new : Resource) (slots' : List (List ℕ × Resource)) where
  abbrev FindsAt : List ℕ → Type 0
  FindsAt name = Finds slots slots' name new

  -- the node afterwards is consistent, and this happened at it
  abbrev Happens : Type 0 → Type 0
  Happens Event = IsConsistentNode (node_with me nodes start slots') × Event

  here_is_consistent : (name : List ℕ) → slot ≡ resource_at now name → IsConsistentResource now.me now.nodes name now.start slot
  here_is_consistent name here = subst (λ (r : Resource). IsConsistentResource now.me now.nodes name now.start r) (sym here) (kept.each name)

  pub asked : (client : ℕ) (name : List ℕ) (mode : Mode) (sends : List Message) (marks : List Mark) → slot ≡ resource_at now name → FindsAt name → AskTurn slot client mode sends marks new → IsConsistent new.state
      → Happens (AskEvent now client name mode sends marks (node_with me nodes start slots'))
  asked client name mode sends marks here finds turn state =
      let after = after_update me nodes start slots now is name new slots' kept finds (ask_kept now.me now.nodes name now.start slot client mode sends marks new turn state (here_is_consistent name here)) in
      (after.kept, record { resource = new; turn = subst (λ (r : Resource). AskTurn r client mode sends marks new) here turn; new_is = after.view })

  pub left : (client : ℕ) (name : List ℕ) (sends : List Message) (marks : List Mark) → slot ≡ resource_at now name → FindsAt name → LeaveTurn slot client sends marks new → IsConsistent new.state
      → Happens (LeaveEvent now client name sends marks (node_with me nodes start slots'))
  left client name sends marks here finds turn state =
      let after = after_update me nodes start slots now is name new slots' kept finds (leave_kept now.me now.nodes name now.start slot client sends marks new turn state (here_is_consistent name here)) in
      (after.kept, record { resource = new; turn = subst (λ (r : Resource). LeaveTurn r client sends marks new) here turn; new_is = after.view })

  pub cancelled : (client : ℕ) (name : List ℕ) (sends : List Message) (marks : List Mark) → slot ≡ resource_at now name → FindsAt name → CancelTurn slot client sends marks new → IsConsistent new.state
      → Happens (CancelEvent now client name sends marks (node_with me nodes start slots'))
  cancelled client name sends marks here finds turn state =
      let after = after_update me nodes start slots now is name new slots' kept finds (cancel_kept now.me now.nodes name now.start slot client sends marks new turn state (here_is_consistent name here)) in
      (after.kept, record { resource = new; turn = subst (λ (r : Resource). CancelTurn r client sends marks new) here turn; new_is = after.view })

  -- a slot that is written as it was leaves the node as it was
  unchanged : (name : List ℕ) → IsWritten slots name slot new slots' → new ≡ slot → node_with me nodes start slots' ≡ now
  unchanged name written same =
      ap (λ (es : List (List ℕ × Resource)). node_with me nodes start es)
      (written.slots_are ∙ ap (set_value (bytes_eq name) slots) same ∙ set_value_same (bytes_eq name) slots slot (sym written.was)) ∙ is

  pub received : (message : Message) (sends : List Message) (marks : List Mark) → slot ≡ resource_at now (name_of message) → FindsAt (name_of message) → ReceiveTurn slot message sends marks new → IsConsistent new.state
      → (IsStrayAt slot message → node_with me nodes start slots' ≡ now) → Happens (ReceiveEvent now message sends marks (node_with me nodes start slots'))
  received message sends marks here finds turn state at_stray =
      let name = name_of message in
      let after = after_update me nodes start slots now is name new slots' kept finds (receive_kept now.me now.nodes name now.start slot message sends marks new turn state (here_is_consistent name here)) in (
        after.kept,
        record {
          resource = new;
          turn = subst (λ (r : Resource). ReceiveTurn r message sends marks new) here turn;
          after_stray = λ stray. at_stray (subst (λ (r : Resource). IsStrayAt r message) (sym here) stray);
          after_other = λ _. after.view;
        },
      )

  -- what is known after a call at a slot: the node is consistent, an event happened if it was Ok, and otherwise the node is as before
  pub record IsAfterCall {E : Type 0} (result : Result Outcome E) (Event : Outcome → Type 0) : Type 0 where
    pub consistent : IsConsistentNode (node_with me nodes start slots')
    pub ok : IfOk result Event
    pub err : OnErr result (node_with me nodes start slots' ≡ now)

  after_call : {E : Type 0} (result : Result Outcome E) (Turn Event : Outcome → Type 0) (Refused : E → Type 0) (name : List ℕ) → MatchResult result (λ o. Turn o × IsConsistent new.state) (λ fault. Refused fault × (new ≡ slot))
      → IsWritten slots name slot new slots' → ((outcome : Outcome) → Turn outcome → IsConsistent new.state → Happens (Event outcome)) → IsAfterCall result Event
  after_call (Ok outcome) Turn Event Refused name ended written by_turn =
      let happens = by_turn outcome ended.0 ended.1 in
      record { consistent = happens.0; ok = happens.1; err = tt }
  after_call (Err fault) Turn Event Refused name ended written by_turn =
      let view = unchanged name written ended.1 in
      record { consistent = subst IsConsistentNode (sym view) kept; ok = tt; err = view }

-- ---- A call at the slot that a look-up among a node's slots finds

pub written_through : {S : Type 0} (slots slots' : HashMap (List ℕ) Resource S) (name : List ℕ) (slot new : Resource) → Some slot ≡ lookup (bytes_eq name) slots.entries → WritesThrough bytes_eq (bytes_eq name) slots new slots'
    → IsWritten slots.entries name slot new slots'.entries
written_through slots slots' name slot new was written = record { was = was; slots_are = written.0; finds = (written.3 (subst IsSome was refl)).0 }

module _ {S E : Type 0} (me nodes start : ℕ) (slots slots' : HashMap (List ℕ) Resource S) (now : NodeState) (is : node_with me nodes start slots.entries ≡ now) (invariant : IsConsistentNode (node_with me nodes start slots.entries)) (slot new : Resource)
    (result : Result Outcome E) (Refused : E → Type 0)
  where
    abbrev kept : IsConsistentNode now
    kept = subst IsConsistentNode is invariant

    -- how the call ended at the slot
    abbrev Ended : (Outcome → Type 0) → Type 0
    Ended Turn = MatchResult result (λ o. Turn o × IsConsistent new.state) (λ fault. Refused fault × (new ≡ slot))

    abbrev IsAfter : (Outcome → Type 0) → Type 0
    IsAfter Event = IsAfterCall me nodes start slots.entries now is kept slot new slots'.entries result Event

    pub asked_at : (client : ℕ) (name : List ℕ) (mode : Mode) → Ended (λ o. AskTurn slot client mode o.sends.items o.marks.items new) → Some slot ≡ lookup (bytes_eq name) slots.entries → WritesThrough bytes_eq (bytes_eq name) slots new slots'
        → IsAfter (λ o. AskEvent now client name mode o.sends.items o.marks.items (node_with me nodes start slots'.entries))
    asked_at client name mode turn was through =
        let written = written_through slots slots' name slot new was through in
        after_call me nodes start slots.entries now is kept slot new slots'.entries result (λ (o : Outcome). AskTurn slot client mode o.sends.items o.marks.items new) (λ (o : Outcome). AskEvent now client name mode o.sends.items o.marks.items (node_with me nodes start slots'.entries)) Refused name turn written
        (λ o. asked me nodes start slots.entries now is kept slot new slots'.entries client name mode o.sends.items o.marks.items (found me nodes start slots.entries now is name slot was) written.finds)

    pub left_at : (client : ℕ) (name : List ℕ) → Ended (λ o. LeaveTurn slot client o.sends.items o.marks.items new) → Some slot ≡ lookup (bytes_eq name) slots.entries → WritesThrough bytes_eq (bytes_eq name) slots new slots'
        → IsAfter (λ o. LeaveEvent now client name o.sends.items o.marks.items (node_with me nodes start slots'.entries))
    left_at client name turn was through =
        let written = written_through slots slots' name slot new was through in
        after_call me nodes start slots.entries now is kept slot new slots'.entries result (λ (o : Outcome). LeaveTurn slot client o.sends.items o.marks.items new) (λ (o : Outcome). LeaveEvent now client name o.sends.items o.marks.items (node_with me nodes start slots'.entries)) Refused name turn written
        (λ o. left me nodes start slots.entries now is kept slot new slots'.entries client name o.sends.items o.marks.items (found me nodes start slots.entries now is name slot was) written.finds)

    pub cancelled_at : (client : ℕ) (name : List ℕ) → Ended (λ o. CancelTurn slot client o.sends.items o.marks.items new) → Some slot ≡ lookup (bytes_eq name) slots.entries → WritesThrough bytes_eq (bytes_eq name) slots new slots'
        → IsAfter (λ o. CancelEvent now client name o.sends.items o.marks.items (node_with me nodes start slots'.entries))
    cancelled_at client name turn was through =
        let written = written_through slots slots' name slot new was through in
        after_call me nodes start slots.entries now is kept slot new slots'.entries result (λ (o : Outcome). CancelTurn slot client o.sends.items o.marks.items new) (λ (o : Outcome). CancelEvent now client name o.sends.items o.marks.items (node_with me nodes start slots'.entries)) Refused name turn written
        (λ o. cancelled me nodes start slots.entries now is kept slot new slots'.entries client name o.sends.items o.marks.items (found me nodes start slots.entries now is name slot was) written.finds)

    pub received_at : (message : Message) (name : List ℕ) → name ≡ name_of message → Ended (λ o. ReceiveTurn slot message o.sends.items o.marks.items new) → Some slot ≡ lookup (bytes_eq name) slots.entries → WritesThrough bytes_eq (bytes_eq name) slots new slots'
        → IsAfter (λ o. ReceiveEvent now message o.sends.items o.marks.items (node_with me nodes start slots'.entries))
    received_at message name name-is turn was through =
        let written = subst (λ (q : List ℕ). IsWritten slots.entries q slot new slots'.entries) name-is (written_through slots slots' name slot new was through) in
        after_call me nodes start slots.entries now is kept slot new slots'.entries result (λ (o : Outcome). ReceiveTurn slot message o.sends.items o.marks.items new) (λ (o : Outcome). ReceiveEvent now message o.sends.items o.marks.items (node_with me nodes start slots'.entries)) Refused (name_of message) turn written
        (λ o turn state. received me nodes start slots.entries now is kept slot new slots'.entries message o.sends.items o.marks.items (found me nodes start slots.entries now is (name_of message) slot written.was) written.finds turn state
        (λ stray. unchanged me nodes start slots.entries now is kept slot new slots'.entries (name_of message) written (stray_stays slot message o.sends.items o.marks.items new turn stray)))

-- nobody holds a resource that nothing was about yet
pub nobody_holds : (r : Resource) (me nodes : ℕ) (name : List ℕ) (start : ℕ) → r ≡ unmet me nodes name start → (client : ℕ) (entry : Entry) → Holds r client entry → ⊥
nobody_holds r me nodes name start is client entry held = none-some entry (sym (ap holder_of is) ∙ held.granted)

-- and nobody waits for it
pub nobody_kept : (r : Resource) (me nodes : ℕ) (name : List ℕ) (start : ℕ) → r ≡ unmet me nodes name start → (client : ℕ) → IsKeptWaiting r client → ⊥
nobody_kept r me nodes name start is client kept = elim kept [
  | inl waits ↦ none-some waits.0 (sym (ap waiter_of is) ∙ waits.1.requested)
  | inr queued ↦ let here = subst (λ (x : Resource). IsQueued x client) is queued in omega (arith, here.2)
]

-- ---- A call at the slot of a name that nothing was about yet

-- the node by its slots, if these are as before
pub same_view : (me nodes start : ℕ) (before slots : List (List ℕ × Resource)) (now : NodeState) → slots ≡ before → node_with me nodes start before ≡ now → node_with me nodes start slots ≡ now
same_view me nodes start before slots now same is = ap (λ (es : List (List ℕ × Resource)). node_with me nodes start es) same ∙ is

-- what a node keeps does not depend on the room for more slots
pub kept_as : (n m : Inside) → m ≡ record n { slots = m.slots } → m.slots.entries ≡ n.slots.entries → IsKept n → IsKept m
kept_as n m is same kept =
    let over = λ (P : List (List ℕ × Resource) → Type 0) (p : P n.slots.entries). subst P (sym same) p in
    subst IsKept (sym is)
    (record {
      consistent = over (λ es. IsConsistentNode (node_with n.member.node n.member.nodes n.start es)) kept.consistent;
      waiting = over (λ es. n.waiting ≡ waiting_count (node_with n.member.node n.member.nodes n.start es)) kept.waiting;
      queued = over (λ es. n.queued ≡ queued_count (node_with n.member.node n.member.nodes n.start es)) kept.queued;
      counted = over (λ es. excess_of (node_with n.member.node n.member.nodes n.start es) ≡ 0) kept.counted;
    })

-- how a call ended, seen from the node as it was
pub seen_from : {E : Type 0} (result : Result Outcome E) (Refused : E → Type 0) (Event : NodeState → Outcome → Type 0) (old now new : NodeState) → old ≡ now → MatchResult result (Event old) (λ fault. Refused fault × (new ≡ old))
    → IfOk result (Event now) × OnErr result (new ≡ now)
seen_from (Ok outcome) Refused Event old now new is ended = (subst (λ (n : NodeState). Event n outcome) is ended, tt)
seen_from (Err fault) Refused Event old now new is ended = (tt, ended.1 ∙ is)

module _ (now : NodeState) (name : List ℕ) (none : finmap.get now.resources name ≡ None) (slot : Resource) (fresh : slot ≡ unmet now.me now.nodes name now.start) where
  pub first_here : slot ≡ resource_at now name
  first_here = fresh ∙ sym (ap (λ (o : Option Resource). unwrap_or o (unmet now.me now.nodes name now.start)) none)

  first_is_consistent : IsConsistentNode now → IsConsistentResource now.me now.nodes name now.start slot
  first_is_consistent kept = subst (λ (r : Resource). IsConsistentResource now.me now.nodes name now.start r) (sym first_here) (kept.each name)

  -- the slot after a turn can be taken in
  pub first_ask_kept : IsConsistentNode now → (client : ℕ) (mode : Mode) (sends : List Message) (marks : List Mark) (new : Resource) → AskTurn slot client mode sends marks new → IsConsistent new.state
      → IsConsistentResource now.me now.nodes name now.start new
  first_ask_kept kept client mode sends marks new turn state = ask_kept now.me now.nodes name now.start slot client mode sends marks new turn state (first_is_consistent kept)

  pub first_receive_kept : IsConsistentNode now → (message : Message) (sends : List Message) (marks : List Mark) (new : Resource) → ReceiveTurn slot message sends marks new → IsConsistent new.state
      → IsConsistentResource now.me now.nodes name now.start new
  first_receive_kept kept message sends marks new turn state = receive_kept now.me now.nodes name now.start slot message sends marks new turn state (first_is_consistent kept)

  -- and then the event has happened
  pub first_asked : (client : ℕ) (mode : Mode) (sends : List Message) (marks : List Mark) (new : Resource) → AskTurn slot client mode sends marks new → (after : NodeState) → after ≡ with_resource now name new → AskEvent now client name mode sends marks after
  first_asked client mode sends marks new turn after is = record { resource = new; turn = subst (λ (r : Resource). AskTurn r client mode sends marks new) first_here turn; new_is = is }

  pub first_received : (message : Message) (sends : List Message) (marks : List Mark) (new : Resource) → name ≡ name_of message → ReceiveTurn slot message sends marks new → (IsStrayAt slot message → ⊥) → (after : NodeState) → after ≡ with_resource now name new
      → ReceiveEvent now message sends marks after
  first_received message sends marks new name-is turn other after is =
      let here = first_here ∙ ap (resource_at now) name-is in
      record {
        resource = new;
        turn = subst (λ (r : Resource). ReceiveTurn r message sends marks new) here turn;
        after_stray = λ stray. absurd (other (subst (λ (r : Resource). IsStrayAt r message) (sym here) stray));
        after_other = λ _. is ∙ ap (λ (q : List ℕ). with_resource now q new) name-is;
      }

-- ---- A message about a name that nothing was about yet

idle_at : (n : NodeState) (name : List ℕ) → finmap.get n.resources name ≡ None → (resource_at n name).state.phase ≡ Idle
idle_at n name none = ap (λ (o : Option Resource). (unwrap_or o (unmet n.me n.nodes name n.start)).state.phase) none

-- a REPLY is a stray then
first_is_stray : (now : NodeState) (from to : ℕ) (name : List ℕ) (seq : ℕ) → finmap.get now.resources name ≡ None → ReceiveEvent now (Reply from to name seq) [] [] now
first_is_stray now from to name seq none =
    let message = Reply from to name seq in
    let r = resource_at now name in
    let stray : IsStrayAt r message = λ mode awaits. idle_waits (sym (idle_at now name none) ∙ awaits.waits) in
    record {
      resource = r;
      turn = record {
        entered = false;
        step = (refl, inl (record { not_awaited = stray; entered_is = refl; new_is = refl }));
        enters = refl;
        client_is = refl;
        queue_is = refl;
      };
      after_stray = λ _. refl;
      after_other = λ other. absurd (other stray);
    }
  where
    idle_waits : {seq : ℕ} {mode : Mode} → Idle ≡ Waiting seq mode → ⊥
    idle_waits is = cc

-- and leaves the node as it was
pub first_stays : (now new : NodeState) → new ≡ now → (message : Message) (from to : ℕ) (name : List ℕ) (seq : ℕ) → message ≡ Reply from to name seq → finmap.get now.resources (name_of message) ≡ None
    → (sends : List Message) (marks : List Mark) → sends ≡ [] → marks ≡ [] → ReceiveEvent now message sends marks new
first_stays now new view message from to name seq is none sends marks no_sends no_marks =
    let event = first_is_stray now from to name seq (subst (λ (m : Message). finmap.get now.resources (name_of m) ≡ None) is none) in
    subst (λ (n : NodeState). ReceiveEvent now message sends marks n) (sym view)
    (subst (λ (xs : List Mark). ReceiveEvent now message sends xs now) (sym no_marks)
    (subst (λ (ms : List Message). ReceiveEvent now message ms [] now) (sym no_sends)
    (subst (λ (m : Message). ReceiveEvent now m [] [] now) (sym is) event)))

-- a REQUEST is no stray
pub request_is_no_stray : (r : Resource) (message : Message) (from to : ℕ) (name : List ℕ) (mode : Mode) (seq : ℕ) → message ≡ Request from to name mode seq → IsStrayAt r message → ⊥
request_is_no_stray r message from to name mode seq is = subst (λ (m : Message). IsStrayAt r m → ⊥) (sym is) (λ stray. stray)
