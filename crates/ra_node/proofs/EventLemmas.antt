-- What the messages and marks of an event are about.
use Rattle.std.proofs.Common.{◌≡◌, ◌≢◌, ℕ, ◌*◌, ◌≤◌, Bool, true, false, List, All, length, sym, subst, inr, arith}
use Rattle.std.proofs.lemmas.Bool.{false≢true}
use Rattle.std.specs.Prelude.{unwrap_or}
use Rattle.std.specs.FinMap as finmap
use Rattle.ra_stamp.specs.declared.mode.Mode.{Mode}
use Rattle.ra_stamp.specs.declared.message.Message.{Message}
use Rattle.ra_stamp.specs.declared.message.Message.TheVariants.{Request, Reply}
use Rattle.ra_stamp.specs.declared.entry.Mark.{Mark}
use Rattle.ra_stamp.specs.Message.{name_of, seq_of}
use Rattle.ra_automaton.specs.State.{State, IsForNode, IsAddressed}
use Rattle.ra_node.specs.Resource.{Resource, unmet, use_of, IsConsistentResource}
use Rattle.ra_node.specs.Node.{NodeState, resource_at, IsConsistentNode}
use Rattle.ra_node.specs.Forgetting.{raised}
use Rattle.ra_node.specs.Events.{AskEvent, LeaveEvent, CancelEvent, ReceiveEvent, Event, IsNamed, name_of_event, NodeEvent}
use Rattle.ra_node.specs.Events.Event.{Ask, Leave, Cancel, Receive, Forget}
use Rattle.ra_node.specs.Turns.{EntersBy}
use Rattle.ra_node.specs.Carried.{IsSend, IsMark, MarksLead, replies_at_most, entries_at_most}
use Rattle.ra_node.proofs.Leading.{ask_leads, leave_leads, cancel_leads, receive_leads}
use Rattle.ra_node.proofs.Room.{ask_room, leave_turn_room, cancel_turn_room, receive_room}
use Rattle.ra_node.proofs.Updates.{IsUpdate, receive_updates, event_updates, updated_here, others_stay, node_stays}
use Rattle.ra_node.proofs.Sends.{answers_are_sends}
use Rattle.ra_node.proofs.Kept.{ask_sends, ask_marks, leave_sends, leave_marks, cancel_sends, cancel_marks, receive_marks}

-- ---- Messages and marks

abbrev AreSends : ℕ → ℕ → List ℕ → (Message → Type 0) → List Message → Type 0
AreSends me nodes name P = All (λ message. IsSend me nodes name message × P message)

sends_moved : (P : Message → Type 0) (sends : List Message) (s : State) (me nodes : ℕ) (name : List ℕ) → s.me ≡ me → s.nodes ≡ nodes → s.name ≡ name
    → AreSends s.me s.nodes s.name P sends → AreSends me nodes name P sends
sends_moved P sends s me nodes name a b c h =
    subst (λ (x : List ℕ). AreSends me nodes x P sends) c (subst (λ (x : ℕ). AreSends me x s.name P sends) b (subst (λ (x : ℕ). AreSends x s.nodes s.name P sends) a h))

marks_moved : (marks : List Mark) (s : State) (me : ℕ) (name : List ℕ) → s.me ≡ me → s.name ≡ name → All (IsMark s.me s.name) marks → All (IsMark me name) marks
marks_moved marks s me name a c h = subst (λ (x : List ℕ). All (IsMark me x) marks) c (subst (λ (x : ℕ). All (IsMark x s.name) marks) a h)

pub ask_event_sends : (old : NodeState) (client : ℕ) (name : List ℕ) (mode : Mode) (sends : List Message) (marks : List Mark) (new : NodeState) → IsConsistentNode old → AskEvent old client name mode sends marks new
    → AreSends old.me old.nodes name (λ m. 1 ≤ seq_of m) sends
ask_event_sends old client name mode sends marks new h event =
    let here = h.each name in
    sends_moved (λ m. 1 ≤ seq_of m) sends (resource_at old name).state old.me old.nodes name here.me_is here.nodes_is here.name_is
    (ask_sends (resource_at old name) client mode sends marks event.resource event.turn)

pub ask_event_marks : (old : NodeState) (client : ℕ) (name : List ℕ) (mode : Mode) (sends : List Message) (marks : List Mark) (new : NodeState) → IsConsistentNode old → AskEvent old client name mode sends marks new
    → All (IsMark old.me name) marks
ask_event_marks old client name mode sends marks new h event =
    let here = h.each name in
    marks_moved marks (resource_at old name).state old.me name here.me_is here.name_is
    (ask_marks (resource_at old name) client mode sends marks event.resource event.turn)

pub leave_event_sends : (old : NodeState) (client : ℕ) (name : List ℕ) (sends : List Message) (marks : List Mark) (new : NodeState) → IsConsistentNode old → LeaveEvent old client name sends marks new
    → AreSends old.me old.nodes name (λ m. 1 ≤ seq_of m) sends
leave_event_sends old client name sends marks new h event =
    let here = h.each name in
    sends_moved (λ m. 1 ≤ seq_of m) sends (resource_at old name).state old.me old.nodes name here.me_is here.nodes_is here.name_is
    (leave_sends (resource_at old name) client sends marks event.resource here.state event.turn)

pub cancel_event_sends : (old : NodeState) (client : ℕ) (name : List ℕ) (sends : List Message) (marks : List Mark) (new : NodeState) → IsConsistentNode old → CancelEvent old client name sends marks new
    → AreSends old.me old.nodes name (λ m. 1 ≤ seq_of m) sends
cancel_event_sends old client name sends marks new h event =
    let here = h.each name in
    sends_moved (λ m. 1 ≤ seq_of m) sends (resource_at old name).state old.me old.nodes name here.me_is here.nodes_is here.name_is
    (cancel_sends (resource_at old name) client sends marks event.resource here.state event.turn)

pub leave_event_marks : (old : NodeState) (client : ℕ) (name : List ℕ) (sends : List Message) (marks : List Mark) (new : NodeState) → IsConsistentNode old → LeaveEvent old client name sends marks new
    → All (IsMark old.me name) marks
leave_event_marks old client name sends marks new h event =
    let here = h.each name in
    marks_moved marks (resource_at old name).state old.me name here.me_is here.name_is
    (leave_marks (resource_at old name) client sends marks event.resource here.state event.turn)

pub cancel_event_marks : (old : NodeState) (client : ℕ) (name : List ℕ) (sends : List Message) (marks : List Mark) (new : NodeState) → IsConsistentNode old → CancelEvent old client name sends marks new
    → All (IsMark old.me name) marks
cancel_event_marks old client name sends marks new h event =
    let here = h.each name in
    marks_moved marks (resource_at old name).state old.me name here.me_is here.name_is
    (cancel_marks (resource_at old name) client sends marks event.resource here.state event.turn)

-- the automaton's words for a message that the node may take
pub addressed : (n : NodeState) (message : Message) (s : State) → s.me ≡ n.me → s.nodes ≡ n.nodes → IsForNode n.me n.nodes message → IsAddressed s message
addressed n message s me nodes h = subst (λ (k : ℕ). IsForNode s.me k message) (sym nodes) (subst (λ (k : ℕ). IsForNode k n.nodes message) (sym me) h)

pub receive_event_sends : (old : NodeState) (message : Message) (sends : List Message) (marks : List Mark) (new : NodeState) → IsConsistentNode old → IsForNode old.me old.nodes message
    → ReceiveEvent old message sends marks new → AreSends old.me old.nodes (name_of message) (λ m. seq_of m ≡ seq_of message) sends
receive_event_sends old message sends marks new h for event =
    let name = name_of message in
    let here = h.each name in
    let s = (resource_at old name).state in
    sends_moved (λ m. seq_of m ≡ seq_of message) sends s old.me old.nodes name here.me_is here.nodes_is here.name_is
    (answers_are_sends s message sends event.turn.entered event.resource.state (addressed old message s here.me_is here.nodes_is for) event.turn.step)

pub receive_event_marks : (old : NodeState) (message : Message) (sends : List Message) (marks : List Mark) (new : NodeState) → IsConsistentNode old → IsConsistentNode new
    → ReceiveEvent old message sends marks new → All (IsMark old.me (name_of message)) marks
receive_event_marks old message sends marks new h after event =
    let name = name_of message in
    let here = h.each name in
    let is : resource_at new name ≡ event.resource = updated_here old new name event.resource (receive_updates old new message sends marks event) in
    let state = subst (λ (r : Resource). IsConsistentResource new.me new.nodes name new.start r) is (after.each name) in
    marks_moved marks (resource_at old name).state old.me name here.me_is here.name_is
    (receive_marks (resource_at old name) message sends marks event.resource state.state event.turn)

-- ---- How many messages and marks come

pub ask_event_room : (old : NodeState) (client : ℕ) (name : List ℕ) (mode : Mode) (sends : List Message) (marks : List Mark) (new : NodeState) → IsConsistentNode old → AskEvent old client name mode sends marks new
    → (length sends ≤ old.nodes) × (length marks ≤ 2)
ask_event_room old client name mode sends marks new h event =
    subst (λ (n : ℕ). (length sends ≤ n) × (length marks ≤ 2)) (h.each name).nodes_is (ask_room (resource_at old name) client mode sends marks event.resource event.turn)

pub leave_event_room : (old : NodeState) (client : ℕ) (name : List ℕ) (sends : List Message) (marks : List Mark) (new : NodeState) → IsConsistentNode old → LeaveEvent old client name sends marks new
    → (length sends ≤ 2 * old.nodes) × (length marks ≤ 3)
leave_event_room old client name sends marks new h event =
    subst (λ (n : ℕ). (length sends ≤ 2 * n) × (length marks ≤ 3)) (h.each name).nodes_is (leave_turn_room (resource_at old name) client sends marks event.resource (h.each name).state event.turn)

pub cancel_event_room : (old : NodeState) (client : ℕ) (name : List ℕ) (sends : List Message) (marks : List Mark) (new : NodeState) → IsConsistentNode old → CancelEvent old client name sends marks new
    → (length sends ≤ 2 * old.nodes) × (length marks ≤ 3)
cancel_event_room old client name sends marks new h event =
    subst (λ (n : ℕ). (length sends ≤ 2 * n) × (length marks ≤ 3)) (h.each name).nodes_is (cancel_turn_room (resource_at old name) client sends marks event.resource (h.each name).state event.turn)

pub receive_event_room : (old : NodeState) (message : Message) (sends : List Message) (marks : List Mark) (new : NodeState) → ReceiveEvent old message sends marks new
    → (length sends ≤ 1) × (length marks ≤ 1)
receive_event_room old message sends marks new event = receive_room (resource_at old (name_of message)) message sends marks event.resource event.turn

-- a REQUEST lets nobody enter, and to a REPLY nothing is sent
pub receive_event_room_of : (old new : NodeState) (message : Message) (sends : List Message) (marks : List Mark) → ReceiveEvent old message sends marks new
    → (length sends ≤ replies_at_most message) × (length marks ≤ entries_at_most message)
receive_event_room_of old new (Request from to name mode seq) sends marks event =
    ((receive_event_room old (Request from to name mode seq) sends marks new event).0, no_marks event.turn.entered event.resource marks event.turn.step.0 event.turn.enters)
  where
    no_marks : (entered : Bool) (r : Resource) (marks : List Mark) → entered ≡ false → EntersBy entered r marks → length marks ≤ 0
    no_marks false r marks is enters = subst (λ (ms : List Mark). length ms ≤ 0) (sym enters) (omega arith)
    no_marks true r marks is enters = absurd (false≢true (sym is))
receive_event_room_of old new (Reply from to name seq) sends marks event =
    (subst (λ (ms : List Message). length ms ≤ 0) (sym event.turn.step.0) (omega arith), (receive_event_room old (Reply from to name seq) sends marks new event).1)

-- ---- One request of a node on a name

leads_on : (old new : NodeState) (name : List ℕ) (r : Resource) (marks : List Mark) → IsUpdate old name r new → MarksLead (use_of (resource_at old name)) marks (use_of r)
    → MarksLead (use_of (resource_at old name)) marks (use_of (resource_at new name))
leads_on old new name r marks update h =
    subst (λ (x : Resource). MarksLead (use_of (resource_at old name)) marks (use_of x)) (sym (updated_here old new name r update)) h

pub ask_event_leads : (old : NodeState) (client : ℕ) (name : List ℕ) (mode : Mode) (sends : List Message) (marks : List Mark) (new : NodeState) → AskEvent old client name mode sends marks new
    → MarksLead (use_of (resource_at old name)) marks (use_of (resource_at new name))
ask_event_leads old client name mode sends marks new event =
    leads_on old new name event.resource marks (inr event.new_is) (ask_leads (resource_at old name) client mode sends marks event.resource event.turn)

pub leave_event_leads : (old : NodeState) (client : ℕ) (name : List ℕ) (sends : List Message) (marks : List Mark) (new : NodeState) → LeaveEvent old client name sends marks new
    → MarksLead (use_of (resource_at old name)) marks (use_of (resource_at new name))
leave_event_leads old client name sends marks new event =
    leads_on old new name event.resource marks (inr event.new_is) (leave_leads (resource_at old name) client sends marks event.resource event.turn)

pub cancel_event_leads : (old : NodeState) (client : ℕ) (name : List ℕ) (sends : List Message) (marks : List Mark) (new : NodeState) → CancelEvent old client name sends marks new
    → MarksLead (use_of (resource_at old name)) marks (use_of (resource_at new name))
cancel_event_leads old client name sends marks new event =
    leads_on old new name event.resource marks (inr event.new_is) (cancel_leads (resource_at old name) client sends marks event.resource event.turn)

pub receive_event_leads : (old : NodeState) (message : Message) (sends : List Message) (marks : List Mark) (new : NodeState) → ReceiveEvent old message sends marks new
    → MarksLead (use_of (resource_at old (name_of message))) marks (use_of (resource_at new (name_of message)))
receive_event_leads old message sends marks new event =
    leads_on old new (name_of message) event.resource marks (receive_updates old new message sends marks event) (receive_leads (resource_at old (name_of message)) message sends marks event.resource event.turn)

-- ---- An event on one name leaves all other names

pub other_entry : (old new : NodeState) (event : Event) (sends : List Message) (marks : List Mark) (other : List ℕ) → NodeEvent old event sends marks new → IsNamed event → other ≢ name_of_event event
    → finmap.get new.resources other ≡ finmap.get old.resources other
other_entry old new event sends marks other h named apart =
    let update = event_updates old new event sends marks h named in
    others_stay old new (name_of_event event) update.0 update.1 other apart

pub same_node_named : (old new : NodeState) (event : Event) (sends : List Message) (marks : List Mark) → NodeEvent old event sends marks new → IsNamed event → (new.me ≡ old.me) × (new.nodes ≡ old.nodes) × (new.start ≡ old.start)
same_node_named old new event sends marks h named =
    let update = event_updates old new event sends marks h named in
    node_stays old new (name_of_event event) update.0 update.1

pub same_start : (old new : NodeState) (event : Event) (sends : List Message) (marks : List Mark) → NodeEvent old event sends marks new → IsNamed event → new.start ≡ old.start
same_start old new event sends marks h named = (same_node_named old new event sends marks h named).2

pub same_node : (old new : NodeState) (event : Event) (sends : List Message) (marks : List Mark) → NodeEvent old event sends marks new → (new.me ≡ old.me) × (new.nodes ≡ old.nodes) × (old.start ≤ new.start)
same_node old new event sends marks h = of event h
  where
    rises : (event : Event) → NodeEvent old event sends marks new → IsNamed event → (new.me ≡ old.me) × (new.nodes ≡ old.nodes) × (old.start ≤ new.start)
    rises event h named = let same = same_node_named old new event sends marks h named in (same.0, same.1, omega (arith, same.2))

    of : (event : Event) → NodeEvent old event sends marks new → (new.me ≡ old.me) × (new.nodes ≡ old.nodes) × (old.start ≤ new.start)
    of (Ask client name mode) h = rises (Ask client name mode) h tt
    of (Leave client name) h = rises (Leave client name) h tt
    of (Cancel client name) h = rises (Cancel client name) h tt
    of (Receive message) h = rises (Receive message) h tt
    of Forget h = (h.me_is, h.nodes_is, omega (arith, h.start_is))

pub other_resource : (old new : NodeState) (event : Event) (sends : List Message) (marks : List Mark) (other : List ℕ) → NodeEvent old event sends marks new → IsNamed event → other ≢ name_of_event event
    → resource_at new other ≡ resource_at old other
other_resource old new event sends marks other h named apart =
    let entry = other_entry old new event sends marks other h named apart in
    let node = same_node_named old new event sends marks h named in
    λ i. unwrap_or (entry i) (unmet (node.0 i) (node.1 i) other (node.2 i))

pub forgets_all : (old new : NodeState) (sends : List Message) (marks : List Mark) → NodeEvent old Forget sends marks new → (number : ℕ) × ((name : List ℕ) → resource_at new name ≡ raised number (resource_at old name))
forgets_all old new sends marks h = (h.number, h.resources)
