-- The frames that a book sent are from its node.
use Rattle.std.proofs.Common.{◌≡◌, ℕ, ◌+◌, ◌≤◌, List, [], ◌∷◌, ◌++◌, length, map, sym, subst, arith}
use Rattle.std.proofs.lemmas.List.{length-append, get_or-append-add}
use Rattle.std.specs.Prelude.{All}
use Rattle.std.proofs.lemmas.List.Elements.{All-nil, All-head, All-tail, All-map, All-append, All-weaker}
use Rattle.ra_stamp.specs.declared.entry.Mark.{Mark}
use Rattle.ra_stamp.specs.declared.message.Message.{Message}
use Rattle.ra_stamp.specs.Message.{from_of}
use Rattle.ra_stamp.specs.NodeId.{IsNodeNumber}
use Rattle.ra_frame.specs.declared.frame.Frame.{Frame}
use Rattle.ra_node.specs.Node.{NodeState, opening_node, IsConsistentNode}
use Rattle.ra_node.specs.Events.{Event, name_of_event, NodeEvent, NodeEvents, IsForThisNode, AreForThisNode}
use Rattle.ra_node.specs.Carried.{IsSend}
use Rattle.ra_book.specs.History.{Posting, happening_of, frames_at, frames_of}
use Rattle.ra_book.specs.Book.{BookState, whole_sent, HasHistory}
use Rattle.ra_book.proofs.Projections.{of_map}
use Rattle.ra_book.proofs.NodeMarks.{for_next}

module _ (keeps : (old new : NodeState) (event : Event) (sends : List Message) (marks : List Mark) → IsConsistentNode old → IsForThisNode old event → NodeEvent old event sends marks new → IsConsistentNode new)
    (sends_own : (old new : NodeState) (event : Event) (sends : List Message) (marks : List Mark) → IsConsistentNode old → IsForThisNode old event → NodeEvent old event sends marks new
    → All (IsSend old.me old.nodes (name_of_event event)) sends)
    (stays : (old new : NodeState) (event : Event) (sends : List Message) (marks : List Mark) → NodeEvent old event sends marks new → (new.me ≡ old.me) × (new.nodes ≡ old.nodes) × (old.start ≤ new.start)) where
  sent_by_node : (postings : List Posting) (old new : NodeState) → IsConsistentNode old → AreForThisNode old (map happening_of postings) → NodeEvents old (map happening_of postings) new
      → All (λ f. from_of f.message ≡ old.me) (frames_of postings)
  sent_by_node [] old new consistent for events = All-nil _
  sent_by_node (p ∷ postings) old new consistent for events =
      let h = happening_of p in
      let next = events.0 in
      let here = All-head (λ h. IsForThisNode old h.event) h (map happening_of postings) for in
      let same = stays old next h.event h.sends h.marks events.1 in
      let rest =
      sent_by_node postings next new (keeps old next h.event h.sends h.marks consistent here events.1)
      (All-weaker (λ h. IsForThisNode old h.event) (λ h. IsForThisNode next h.event) (λ h. for_next old next h.event same.0 same.1) (map happening_of postings)
      (All-tail (λ h. IsForThisNode old h.event) h (map happening_of postings) for))
      events.2
      in
      All-append (λ f. from_of f.message ≡ old.me) (frames_at p.event.clock p.sends) (frames_of postings)
      (All-map (λ f. from_of f.message ≡ old.me) (λ m. record { clock = p.event.clock; message = m }) p.sends
      (All-weaker (IsSend old.me old.nodes (name_of_event h.event)) (λ m. from_of m ≡ old.me) (λ m is. is.from) p.sends (sends_own old next h.event h.sends h.marks consistent here events.1)))
      (subst (λ (k : ℕ). All (λ f. from_of f.message ≡ k) (frames_of postings)) same.0 rest)

  -- what holds of all holds of the last
  of_last : {X : Type 0} (P : X → Type 0) (first last : List X) → All P (first ++ last) → All P last
  of_last P first last all k d low =
      subst P (get_or-append-add first last k d) (all (length first + k) d (omega (arith, low, length-append first last)))

  -- the frames that a book sent are from its node
  pub sent_by_book : ((me nodes start : ℕ) → IsNodeNumber nodes → (1 ≤ me) × (me ≤ nodes) → IsConsistentNode (opening_node me nodes start)) → (b : BookState) → HasHistory b
      → All (λ s. from_of s.frame.message ≡ b.me) b.sent
  sent_by_book opens b history =
      of_last (λ s. from_of s.frame.message ≡ b.me) b.taken.sent b.sent
      (of_map (λ f. from_of f.message ≡ b.me) (λ s. s.frame) (whole_sent b)
      (subst (λ (fs : List Frame). All (λ f. from_of f.message ≡ b.me) fs) (sym history.leads.sent_are)
      (sent_by_node history.leads.postings (opening_node b.me b.nodes b.start) history.node (opens b.me b.nodes b.start history.count history.member) history.leads.for_this_node history.leads.leads)))
