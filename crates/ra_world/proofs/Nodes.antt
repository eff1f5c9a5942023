-- The nodes at the end of a list of moves, and how the next event changes them.
use Rattle.std.proofs.Common.{◌≡◌, ◌⊎◌, ℕ, cond, List, [], ◌∷◌, ◌++◌, map, refl, sym, ap, ◌∙◌, subst, inl, inr}
use Rattle.std.proofs.lemmas.List.{append-nil}
use Rattle.std.proofs.lemmas.Bool.{eq-eqb, ne_eqb}
use Rattle.ra_node.specs.Node.{NodeState, opening_node}
use Rattle.ra_node.specs.Events.{Event, Happening, NodeEvent, NodeEvents}
use Rattle.ra_world.specs.Traffic.{Move}
use Rattle.ra_world.specs.Run.{events_at, happened_at, EndsWith, with_node}
use Rattle.ra_automaton.proofs.Apart.{cases_same}
use Rattle.ra_world.proofs.Protocol.{IsNode, cases_node}
use Rattle.ra_world.proofs.Cluster.{Turned}
use Rattle.ra_world.proofs.Moves.{happens, happened_more, only_at}

pub put_node : (nodes : ℕ → NodeState) (p : ℕ) (new : NodeState) → Turned nodes (with_node nodes p new) p new
put_node nodes p new = record {
  here = ap (λ b. cond b new (nodes p)) (eq-eqb p p refl);
  there = λ k apart. ap (λ b. cond b new (nodes k)) (ne_eqb p k (λ e. apart (sym e)));
}

-- nodes that each meet what some node meets
pub choose : (n : ℕ) (P : ℕ → NodeState → Type 0) → (ℕ → NodeState) → ((i : ℕ) → IsNode n i → (node : NodeState) × P i node)
    → (nodes : ℕ → NodeState) × ((i : ℕ) → IsNode n i → P i (nodes i))
choose n P default each = (λ i. pick i (cases_node n i), λ i at. picked i at (cases_node n i))
  where
    pick : (i : ℕ) → IsNode n i ⊎ (IsNode n i → ⊥) → NodeState
    pick i (inl at) = (each i at).0
    pick i (inr none) = default i

    picked : (i : ℕ) → IsNode n i → (found : IsNode n i ⊎ (IsNode n i → ⊥)) → P i (pick i found)
    picked i at (inl found) = (each i found).1
    picked i at (inr none) = absurd (none at)

-- some node exists at the end
abbrev pub EndsAt : ℕ → ℕ → List Move → ℕ → Type 0
EndsAt n start moves i = (last : NodeState) × NodeEvents (opening_node i n start) (happened_at i moves) last

-- what one more move adds to what happened at the node of its event
pub happens_here : (p : ℕ) (m : Move) (event : Event) → events_at p m.step ≡ event ∷ [] → happens p m ≡ record { event = event; sends = m.sends; marks = m.marks } ∷ []
happens_here p m event here = ap (map (λ e. record { event = e; sends = m.sends; marks = m.marks })) here

-- a step that is no event at a node leaves it
pub left_alone : (n start i : ℕ) (ms : List Move) (m : Move) (node : NodeState) → events_at i m.step ≡ [] → NodeEvents (opening_node i n start) (happened_at i ms) node
    → NodeEvents (opening_node i n start) (happened_at i (ms ++ m ∷ [])) node
left_alone n start i ms m node none was =
    let nothing : happens i m ≡ [] = ap (map (λ e. record { event = e; sends = m.sends; marks = m.marks })) none in
    subst (λ (hs : List Happening). NodeEvents (opening_node i n start) hs node) (sym (happened_more i ms m ∙ ap (λ (hs : List Happening). happened_at i ms ++ hs) nothing ∙ append-nil (happened_at i ms))) was

pub ends_after : ((prefix rest : List Happening) (a b c : NodeState) → NodeEvents a prefix b → NodeEvents b rest c → NodeEvents a (prefix ++ rest) c)
    → (n start : ℕ) (ms : List Move) (m : Move) (nodes : ℕ → NodeState) (p : ℕ) (event : Event) (new : NodeState)
    → EndsWith n start ms nodes → events_at p m.step ≡ event ∷ [] → NodeEvent (nodes p) event m.sends m.marks new → EndsWith n start (ms ++ m ∷ []) (with_node nodes p new)
ends_after joins n start ms m nodes p event new ends here happened i low high =
    elim (cases_same i p) [
      | inl same ↦
          let was = subst (λ (k : ℕ). NodeEvents (opening_node k n start) (happened_at k ms) (nodes k)) same (ends i low high) in
          let now = subst (λ (hs : List Happening). NodeEvents (nodes p) hs (with_node nodes p new p)) (sym (happens_here p m event here)) (new, happened, put.here) in
          let both = joins (happened_at p ms) (happens p m) (opening_node p n start) (nodes p) (with_node nodes p new p) was now in
          subst (λ (k : ℕ). NodeEvents (opening_node k n start) (happened_at k (ms ++ m ∷ [])) (with_node nodes p new k)) (sym same)
          (subst (λ (hs : List Happening). NodeEvents (opening_node p n start) hs (with_node nodes p new p)) (sym (happened_more p ms m)) both)
      | inr apart ↦
          subst (NodeEvents (opening_node i n start) (happened_at i (ms ++ m ∷ []))) (sym (put.there i apart))
          (left_alone n start i ms m (nodes i) (only_at p i m.step event here apart) (ends i low high))
    ]
  where
    put : Turned nodes (with_node nodes p new) p new
    put = put_node nodes p new
