-- Events one after the other.
use Rattle.std.proofs.Common.{◌≡◌, ℕ, ◌≤◌, List, [], ◌∷◌, ◌++◌, refl, sym, ap, ◌∙◌, subst, arith}
use Rattle.std.proofs.lemmas.List.Elements.{All-head, All-tail, All-weaker}
use Rattle.ra_stamp.specs.declared.entry.Mark.{Mark}
use Rattle.ra_stamp.specs.declared.message.Message.{Message}
use Rattle.ra_automaton.specs.State.{IsForNode}
use Rattle.ra_node.specs.Node.{NodeState, IsConsistentNode}
use Rattle.ra_node.specs.Events.{Event, Happening, NodeEvent, NodeEvents, IsNamed, AreNamed, IsForThisNode, AreForThisNode}
use Rattle.ra_node.specs.Events.Event.{Ask, Leave, Cancel, Receive, Forget}
use Rattle.ra_node.proofs.EventLemmas.{same_node, same_start}

pub events_join : (prefix suffix : List Happening) (a b c : NodeState) → NodeEvents a prefix b → NodeEvents b suffix c → NodeEvents a (prefix ++ suffix) c
events_join [] suffix a b c p q = subst (λ (n : NodeState). NodeEvents n suffix c) p q
events_join (h ∷ prefix) suffix a b c p q = (p.0, p.1, events_join prefix suffix p.0 b c p.2 q)

pub events_split : (prefix suffix : List Happening) (a c : NodeState) → NodeEvents a (prefix ++ suffix) c → (b : NodeState) × NodeEvents a prefix b × NodeEvents b suffix c
events_split [] suffix a c p = (a, refl, p)
events_split (h ∷ prefix) suffix a c p = let rest = events_split prefix suffix p.0 c p.2 in (rest.0, (p.0, p.1, rest.1), rest.2)

pub events_step : (happened : List Happening) (event : Event) (sends : List Message) (marks : List Mark) (a b c : NodeState) → NodeEvents a happened b → NodeEvent b event sends marks c
    → NodeEvents a (happened ++ record { event = event; sends = sends; marks = marks } ∷ []) c
events_step happened event sends marks a b c p q = events_join happened (record { event = event; sends = sends; marks = marks } ∷ []) a b c p (c, q, refl)

-- ---- What a history keeps

pub history_same_node : (happened : List Happening) (old new : NodeState) → NodeEvents old happened new → (new.me ≡ old.me) × (new.nodes ≡ old.nodes) × (old.start ≤ new.start)
history_same_node [] old new is = (ap (λ (n : NodeState). n.me) is, ap (λ (n : NodeState). n.nodes) is, omega (arith, ap (λ (n : NodeState). n.start) is))
history_same_node (h ∷ hs) old new (next, first, rest) =
    let here = same_node old next h.event h.sends h.marks first in
    let later = history_same_node hs next new rest in
    (later.0 ∙ here.0, later.1 ∙ here.1, omega (arith, later.2, here.2))

pub history_same_start : (happened : List Happening) (old new : NodeState) → NodeEvents old happened new → AreNamed happened → new.start ≡ old.start
history_same_start [] old new is named = ap (λ (n : NodeState). n.start) is
history_same_start (h ∷ hs) old new (next, first, rest) named =
    history_same_start hs next new rest (All-tail (λ x. IsNamed x.event) h hs named) ∙ same_start old next h.event h.sends h.marks first (All-head (λ x. IsNamed x.event) h hs named)

-- an event that is for a node is so after other events of it
still_for : (old next : NodeState) (event : Event) → next.me ≡ old.me → next.nodes ≡ old.nodes → IsForThisNode old event → IsForThisNode next event
still_for old next (Ask client name mode) me nodes for = tt
still_for old next (Leave client name) me nodes for = tt
still_for old next (Cancel client name) me nodes for = tt
still_for old next Forget me nodes for = tt
still_for old next (Receive message) me nodes for = subst (λ (k : ℕ). IsForNode k next.nodes message) (sym me) (subst (λ (k : ℕ). IsForNode old.me k message) (sym nodes) for)

pub history_kept : ((old new : NodeState) (event : Event) (sends : List Message) (marks : List Mark) → IsConsistentNode old → IsForThisNode old event → NodeEvent old event sends marks new → IsConsistentNode new)
    → (happened : List Happening) (old new : NodeState) → IsConsistentNode old → AreForThisNode old happened → NodeEvents old happened new → IsConsistentNode new
history_kept kept [] old new h for is = subst IsConsistentNode (sym is) h
history_kept kept (e ∷ es) old new h for (next, first, rest) =
    let same = same_node old next e.event e.sends e.marks first in
    let IsForOld : Happening → Type 0 = λ x. IsForThisNode old x.event in
    let IsForNext : Happening → Type 0 = λ x. IsForThisNode next x.event in
    let after = kept old next e.event e.sends e.marks h (All-head IsForOld e es for) first in
    history_kept kept es next new after (All-weaker IsForOld IsForNext (λ x is. still_for old next x.event same.0 same.1 is) es (All-tail IsForOld e es for)) rest
