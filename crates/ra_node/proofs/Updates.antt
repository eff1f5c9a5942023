-- What an event that is about a name makes of its node: a stray leaves the node as it was, and every other one puts a resource under
-- its name.
use Rattle.std.proofs.Common.{◌≡◌, ◌≢◌, ◌⊎◌, ℕ, List, refl, sym, ap, ◌∙◌, subst, inl, inr}
use Rattle.std.specs.FinMap as finmap
use Rattle.ra_stamp.specs.declared.entry.Mark.{Mark}
use Rattle.ra_stamp.specs.declared.message.Message.{Message}
use Rattle.ra_stamp.specs.declared.message.Message.TheVariants.{Request, Reply}
use Rattle.ra_stamp.specs.Message.{name_of}
use Rattle.ra_node.specs.Resource.{Resource, IsConsistentResource}
use Rattle.ra_node.specs.Turns.{ReceiveTurn, IsStrayAt}
use Rattle.ra_node.specs.Node.{NodeState, resource_at, with_resource, IsConsistentNode}
use Rattle.ra_node.specs.Events.{ReceiveEvent, Event, IsNamed, name_of_event, NodeEvent}
use Rattle.ra_node.specs.Events.Event.{Ask, Leave, Cancel, Receive, Forget}
use Rattle.ra_node.proofs.Lookups.{resource_changed, entry_stays}
use Rattle.ra_node.proofs.NodeLemmas.{with_kept}

-- ---- Strays

-- a message that the node takes is a stray or not
pub stray_or_not : (old : Resource) (message : Message) (sends : List Message) (marks : List Mark) (new : Resource) → ReceiveTurn old message sends marks new → IsStrayAt old message ⊎ (IsStrayAt old message → ⊥)
stray_or_not old (Request from to name mode seq) sends marks new turn = inr (λ stray. stray)
stray_or_not old (Reply from to name seq) sends marks new turn =
    elim turn.step.1 [
      | inl stray ↦ inl stray.not_awaited
      | inr awaited ↦ inr (λ stray. elim awaited.1 [ inl enters ↦ stray awaited.0 enters.awaits | inr waits ↦ stray awaited.0 waits.awaits ])
    ]

-- a stray leaves the resource as it was
pub stray_stays : (old : Resource) (message : Message) (sends : List Message) (marks : List Mark) (new : Resource) → ReceiveTurn old message sends marks new → IsStrayAt old message → new ≡ old
stray_stays old (Request from to name mode seq) sends marks new turn stray = absurd stray
stray_stays old (Reply from to name seq) sends marks new turn stray =
    elim turn.step.1 [
      | inl is ↦ λ i. record { state = is.new_is i; client = turn.client_is i; queue = turn.queue_is i }
      | inr awaited ↦ absurd (elim awaited.1 [ inl enters ↦ stray awaited.0 enters.awaits | inr waits ↦ stray awaited.0 waits.awaits ])
    ]

-- each turn that a message can take is an event of the node
pub event_by_turn : (old : NodeState) (message : Message) (sends : List Message) (marks : List Mark) (resource : Resource) → ReceiveTurn (resource_at old (name_of message)) message sends marks resource
    → (new : NodeState) × ReceiveEvent old message sends marks new
event_by_turn old message sends marks resource turn =
    elim (stray_or_not (resource_at old (name_of message)) message sends marks resource turn) [
      | inl stray ↦ (old, record { resource = resource; turn = turn; after_stray = λ _. refl; after_other = λ other. absurd (other stray) })
      | inr other ↦ (with_resource old (name_of message) resource, record { resource = resource; turn = turn; after_stray = λ stray. absurd (other stray); after_other = λ _. refl })
    ]

-- ---- Updates

-- the resource and the node are as they were, or the resource is under the name now
abbrev pub IsUpdate : NodeState → List ℕ → Resource → NodeState → Type 0
IsUpdate old name r new = ((r ≡ resource_at old name) × (new ≡ old)) ⊎ (new ≡ with_resource old name r)

pub receive_updates : (old new : NodeState) (message : Message) (sends : List Message) (marks : List Mark) (event : ReceiveEvent old message sends marks new) → IsUpdate old (name_of message) event.resource new
receive_updates old new message sends marks event =
    let here = resource_at old (name_of message) in
    elim (stray_or_not here message sends marks event.resource event.turn) [
      | inl stray ↦ inl (stray_stays here message sends marks event.resource event.turn stray, event.after_stray stray)
      | inr other ↦ inr (event.after_other other)
    ]

pub event_updates : (old new : NodeState) (event : Event) (sends : List Message) (marks : List Mark) → NodeEvent old event sends marks new → IsNamed event → (r : Resource) × IsUpdate old (name_of_event event) r new
event_updates old new (Ask client name mode) sends marks event named = (event.resource, inr event.new_is)
event_updates old new (Leave client name) sends marks event named = (event.resource, inr event.new_is)
event_updates old new (Cancel client name) sends marks event named = (event.resource, inr event.new_is)
event_updates old new (Receive message) sends marks event named = (event.resource, receive_updates old new message sends marks event)
event_updates old new Forget sends marks event named = absurd named

module _ (old new : NodeState) (name : List ℕ) (r : Resource) (update : IsUpdate old name r new) where
  pub updated_here : resource_at new name ≡ r
  updated_here =
      elim update [
        | inl same ↦ ap (λ (n : NodeState). resource_at n name) same.1 ∙ sym same.0
        | inr is ↦ ap (λ (n : NodeState). resource_at n name) is ∙ resource_changed old name r
      ]

  pub others_stay : (other : List ℕ) → other ≢ name → finmap.get new.resources other ≡ finmap.get old.resources other
  others_stay other apart =
      elim update [
        | inl same ↦ ap (λ (n : NodeState). finmap.get n.resources other) same.1
        | inr is ↦ ap (λ (n : NodeState). finmap.get n.resources other) is ∙ entry_stays old name other r apart
      ]

  pub node_stays : (new.me ≡ old.me) × (new.nodes ≡ old.nodes) × (new.start ≡ old.start)
  node_stays =
      elim update [
        | inl same ↦ (ap (λ (n : NodeState). n.me) same.1, ap (λ (n : NodeState). n.nodes) same.1, ap (λ (n : NodeState). n.start) same.1)
        | inr is ↦ (ap (λ (n : NodeState). n.me) is, ap (λ (n : NodeState). n.nodes) is, ap (λ (n : NodeState). n.start) is)
      ]

  pub update_kept : IsConsistentNode old → IsConsistentResource old.me old.nodes name old.start r → IsConsistentNode new
  update_kept kept h =
      elim update [
        | inl same ↦ subst IsConsistentNode (sym same.1) kept
        | inr is ↦ subst IsConsistentNode (sym is) (with_kept old name r kept h)
      ]

-- the turn that a message takes leads to the resource that the node has afterwards
pub received_turn : (old new : NodeState) (message : Message) (sends : List Message) (marks : List Mark) → ReceiveEvent old message sends marks new
    → ReceiveTurn (resource_at old (name_of message)) message sends marks (resource_at new (name_of message))
received_turn old new message sends marks event =
    let name = name_of message in
    subst (λ (r : Resource). ReceiveTurn (resource_at old name) message sends marks r)
    (sym (updated_here old new name event.resource (receive_updates old new message sends marks event))) event.turn
