-- How many clients there are at a node, and what an event makes of their number.
use Rattle.std.proofs.Common.{◌≡◌, ℕ, ◌+◌, ◌≤◌, List, ◌∷◌, [], length, map, Option, Some, None, refl, sym, ap, subst, arith, inl, inr}
use Rattle.std.specs.Prelude.{option_to_list}
use Rattle.std.proofs.lemmas.List.{length-map, length-append}
use Rattle.std.proofs.lemmas.Option.{none-some}
use Rattle.ra_stamp.specs.declared.entry.Entry.{Entry}
use Rattle.ra_stamp.specs.declared.entry.Mark.{Mark}
use Rattle.ra_stamp.specs.declared.message.Message.{Message}
use Rattle.ra_stamp.specs.declared.mode.Mode.{Mode}
use Rattle.ra_stamp.specs.Message.{name_of}
use Rattle.ra_automaton.specs.declared.phase.Phase.{Phase}
use Rattle.ra_automaton.specs.State.{State}
use Rattle.ra_node.specs.declared.queued_client.Queued.{Queued}
use Rattle.ra_stamp.specs.declared.entry.Mark.TheVariants.{Left, Withdrawn}
use Rattle.ra_node.specs.Resource.{Resource, unmet, use_in, held_entry, waiting_entry, Holds, IsKeptWaiting, ClientFits, clients_of}
use Rattle.ra_node.specs.Turns.{AskTurn, Leaves, Withdraws, EndTurn, LeaveTurn, CancelTurn, ReceiveTurn}
use Rattle.ra_node.specs.Node.{NodeState, opening_node, resource_at, with_resource, clients_count, IsConsistentNode}
use Rattle.ra_node.specs.Events.{AskEvent, LeaveEvent, CancelEvent, ReceiveEvent}
use Rattle.ra_node.proofs.Endings.{AreEnded, leaves_ended, withdraws_ended}
use Rattle.ra_node.proofs.Named.{sum_of_none}
use Rattle.ra_node.proofs.Totals.{sum_put, sum_part}
use Rattle.ra_node.proofs.Updates.{receive_updates}

-- ---- One resource

abbrev clients_at : Resource → ℕ
clients_at r = length (clients_of r)

unfoldable current : Option ℕ → ℕ
current client = length (option_to_list client)

-- the current client, and those that are queued
in_parts : (r : Resource) → clients_at r ≡ current r.client + length r.queue
unfolding current
in_parts r = omega (arith, length-append (option_to_list r.client) (map (λ q. q.client) r.queue), length-map r.queue (λ (q : Queued). q.client))

one_is : (client : ℕ) → current (Some client) ≡ 1
unfolding current
one_is client = refl

none_is : current None ≡ 0
unfolding current
none_is = refl

asked : (old : Resource) (client : ℕ) (mode : Mode) (sends : List Message) (marks : List Mark) (new : Resource) → ClientFits old.state.phase old.client → AskTurn old client mode sends marks new → clients_at new ≡ clients_at old + 1
asked old client mode sends marks new fits turn =
    elim turn.1 [
      | inl once ↦
          let none : old.client ≡ None = subst (λ (p : Phase). ClientFits p old.client) once.step.idle fits in
          omega (arith, in_parts old, in_parts new, ap current none, none_is, ap current once.client_is, one_is client, ap (λ (q : List Queued). length q) once.queue_is)
      | inr queues ↦
          omega (arith, in_parts old, in_parts new, ap (λ (r : Resource). current r.client) queues.new_is, ap (λ (r : Resource). length r.queue) queues.new_is, length-append old.queue (record { client = client; mode = mode } ∷ []))
    ]

-- one client is the current one if somebody holds
one_holds : (s : State) (phase : Phase) (client : Option ℕ) (e : Entry) → held_entry (use_in s phase client) ≡ Some e → current client ≡ 1
one_holds s phase None e is = absurd (none-some e is)
one_holds s phase (Some client) e is = one_is client

ended_counts : (Ends : Entry → List Message → Resource → Type 0) (mark : Entry → Mark) (old : Resource) → AreEnded old Ends → (sends : List Message) (marks : List Mark) (new : Resource) → EndTurn Ends mark old sends marks new → clients_at new + 1 ≡ clients_at old
ended_counts Ends mark old ended sends marks new turn =
    elim turn [
      | inl nobody ↦
          let gone = ended nobody.entry sends new nobody.ends in
          omega (arith, in_parts old, in_parts new, ap current gone.somebody.1, one_is gone.somebody.0, ap current gone.client_is, none_is, ap (λ (q : List Queued). length q) gone.queue_is)
      | inr next ↦
          let gone = ended next.entry next.replies next.between next.ends in
          omega (arith, in_parts old, in_parts new, ap current gone.somebody.1, one_is gone.somebody.0, ap current next.asks.client_is, one_is next.next.client, ap (λ (q : List Queued). length q) next.asks.queue_is, ap (λ (q : List Queued). length q) next.queue_was)
    ]

left : (old : Resource) (client : ℕ) (sends : List Message) (marks : List Mark) (new : Resource) → LeaveTurn old client sends marks new → clients_at new + 1 ≡ clients_at old
left old client sends marks new turn = ended_counts (Leaves old client) Left old (leaves_ended old client) sends marks new turn

cancelled : (old : Resource) (client : ℕ) (sends : List Message) (marks : List Mark) (new : Resource) → CancelTurn old client sends marks new → clients_at new + 1 ≡ clients_at old
cancelled old client sends marks new turn =
    elim turn [
      | inl goes ↦
          omega (
            arith,
            in_parts old,
            in_parts new,
            ap (λ (r : Resource). current r.client) goes.new_is,
            ap (λ (r : Resource). length r.queue) goes.new_is,
            ap (λ (q : List Queued). length q) goes.queue_was,
            length-append goes.before (goes.gone ∷ goes.after),
            length-append goes.before goes.after,
          )
      | inr ends ↦ ended_counts (Withdraws old client) Withdrawn old (withdraws_ended old client) sends marks new ends
    ]

received : (old : Resource) (message : Message) (sends : List Message) (marks : List Mark) (new : Resource) → ReceiveTurn old message sends marks new → clients_at new ≡ clients_at old
received old message sends marks new turn =
    omega (arith, in_parts old, in_parts new, ap current turn.client_is, ap (λ (q : List Queued). length q) turn.queue_is)

-- ---- A node

nobody_yet : (me nodes : ℕ) (name : List ℕ) (start : ℕ) → clients_at (unmet me nodes name start) ≡ 0
nobody_yet me nodes name start = refl

pub opening_counts : (me nodes start : ℕ) → clients_count (opening_node me nodes start) ≡ 0
opening_counts me nodes start = sum_of_none (λ r. length (clients_of r))

module _ (old new : NodeState) (name : List ℕ) (r : Resource) (is : new ≡ with_resource old name r) where
  moves : clients_count new + clients_at (resource_at old name) ≡ clients_count old + clients_at r
  moves =
      subst (λ (n : NodeState). clients_count n + clients_at (resource_at old name) ≡ clients_count old + clients_at r) (sym is)
      (sum_put clients_at old.resources name (unmet old.me old.nodes name old.start) r (nobody_yet old.me old.nodes name old.start))

pub ask_counts : (old new : NodeState) (client : ℕ) (name : List ℕ) (mode : Mode) (sends : List Message) (marks : List Mark) → IsConsistentNode old → AskEvent old client name mode sends marks new → clients_count new ≡ clients_count old + 1
ask_counts old new client name mode sends marks kept event =
    omega (arith, moves old new name event.resource event.new_is, asked (resource_at old name) client mode sends marks event.resource (kept.each name).client_fits event.turn)

pub leave_counts : (old new : NodeState) (client : ℕ) (name : List ℕ) (sends : List Message) (marks : List Mark) → LeaveEvent old client name sends marks new → clients_count new + 1 ≡ clients_count old
leave_counts old new client name sends marks event =
    omega (arith, moves old new name event.resource event.new_is, left (resource_at old name) client sends marks event.resource event.turn)

pub cancel_counts : (old new : NodeState) (client : ℕ) (name : List ℕ) (sends : List Message) (marks : List Mark) → CancelEvent old client name sends marks new → clients_count new + 1 ≡ clients_count old
cancel_counts old new client name sends marks event =
    omega (arith, moves old new name event.resource event.new_is, cancelled (resource_at old name) client sends marks event.resource event.turn)

pub receive_counts : (old new : NodeState) (message : Message) (sends : List Message) (marks : List Mark) → ReceiveEvent old message sends marks new → clients_count new ≡ clients_count old
receive_counts old new message sends marks event =
    let name = name_of message in
    elim (receive_updates old new message sends marks event) [
      | inl same ↦ ap clients_count same.1
      | inr is ↦ omega (arith, moves old new name event.resource is, received (resource_at old name) message sends marks event.resource event.turn)
    ]

pub holder_counts : (node : NodeState) (client : ℕ) (name : List ℕ) (entry : Entry) → Holds (resource_at node name) client entry → 1 ≤ clients_count node
holder_counts node client name entry holds =
    let here = resource_at node name in
    omega (
      arith,
      in_parts here,
      one_holds here.state here.state.phase here.client entry holds.granted,
      sum_part clients_at node.resources name (unmet node.me node.nodes name node.start) (nobody_yet node.me node.nodes name node.start),
    )

-- somebody is here if a client waits or is queued
waits_here : (r : Resource) (client : ℕ) → IsKeptWaiting r client → 1 ≤ clients_at r
waits_here r client kept = elim kept [
  | inl waits ↦
      let one = one_waits r.state r.state.phase r.client waits.0 waits.1.requested in
      omega (arith, in_parts r, one)
  | inr queued ↦ omega (arith, in_parts r, queued.2)
]
  where
    one_waits : (s : State) (phase : Phase) (client : Option ℕ) (e : Entry) → waiting_entry (use_in s phase client) ≡ Some e → current client ≡ 1
    one_waits s phase None e is = absurd (none-some e is)
    one_waits s phase (Some client) e is = one_is client

pub kept_waiting_counts : (node : NodeState) (client : ℕ) (name : List ℕ) → IsKeptWaiting (resource_at node name) client → 1 ≤ clients_count node
kept_waiting_counts node client name kept =
    omega (
      arith,
      waits_here (resource_at node name) client kept,
      sum_part clients_at node.resources name (unmet node.me node.nodes name node.start) (nobody_yet node.me node.nodes name node.start),
    )
