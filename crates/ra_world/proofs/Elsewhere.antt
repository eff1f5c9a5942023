-- How a run goes on at a node, after a move at another one.
use Rattle.std.proofs.Common.{eq-eqb, ◌≡◌, ◌≢◌, ◌↔◌, ℕ, ◌≤◌, List, [], ◌∷◌, ◌++◌, map, refl, sym, ap, ◌∙◌, subst, inl, inr}
use Rattle.std.specs.Prelude.{if◌then◌else◌}
use Rattle.std.proofs.lemmas.Bool.{ne_eqb}
use Rattle.std.proofs.lemmas.List.{append-nil}
use Rattle.ra_automaton.proofs.Apart.{cases_same}
use Rattle.ra_node.specs.Node.{NodeState, opening_node}
use Rattle.ra_node.specs.Events.{Event, Happening, NodeEvents}
use Rattle.ra_world.specs.declared.step.Step.{Step}
use Rattle.ra_world.specs.Traffic.{Move}
use Rattle.ra_world.specs.Run.{IsRun, GoesOn, EndsWith, events_at, happened_at, with_node}
use Rattle.ra_world.proofs.Moves.{happened_more}

this_node : (nodes : ℕ → NodeState) (i : ℕ) (s : NodeState) → with_node nodes i s i ≡ s
this_node nodes i s = ap (λ b. if b then s else nodes i) (eq-eqb i i refl)

other_node : (nodes : ℕ → NodeState) (i k : ℕ) (s : NodeState) → i ≢ k → with_node nodes i s k ≡ nodes k
other_node nodes i k s apart = ap (λ b. if b then s else nodes k) (ne_eqb i k apart)

module _ (n start : ℕ) (moves : List Move) (move : Move) (before : IsRun n start moves) (run : IsRun n start (moves ++ move ∷ [])) where
  same_events : (i : ℕ) → events_at i move.step ≡ [] → happened_at i (moves ++ move ∷ []) ≡ happened_at i moves
  same_events i none =
      happened_more i moves move
      ∙ ap (λ (es : List Event). happened_at i moves ++ map (λ event. record { event = event; sends = move.sends; marks = move.marks }) es) none
      ∙ append-nil (happened_at i moves)

  -- the nodes after the move: the one at which nothing happened is as it was
  abbrev behind : ℕ → ℕ → NodeState
  behind i = with_node run.ends.0 i (before.ends.0 i)

  ends_behind : (i : ℕ) → events_at i move.step ≡ [] → 1 ≤ i → i ≤ n → EndsWith n start (moves ++ move ∷ []) (behind i)
  ends_behind i none low high k first last =
      elim (cases_same i k) [
        | inl same ↦
            subst (λ (j : ℕ). NodeEvents (opening_node j n start) (happened_at j (moves ++ move ∷ [])) (behind i j)) same
            (subst (λ (s : NodeState). NodeEvents (opening_node i n start) (happened_at i (moves ++ move ∷ [])) s) (sym (this_node run.ends.0 i (before.ends.0 i)))
            (subst (λ (hs : List Happening). NodeEvents (opening_node i n start) hs (before.ends.0 i)) (sym (same_events i none)) (before.ends.1 i low high)))
        | inr apart ↦
            subst (λ (s : NodeState). NodeEvents (opening_node k n start) (happened_at k (moves ++ move ∷ [])) s) (sym (other_node run.ends.0 i k (before.ends.0 i) apart))
            (run.ends.1 k first last)
      ]

  -- what depends on that node alone stays
  pub stays : (i : ℕ) (step : Step) (P : NodeState → Type 0)
      → ((ms : List Move) (nodes : ℕ → NodeState) → IsRun n start ms → EndsWith n start ms nodes → GoesOn n start ms step ↔ (((1 ≤ i) × (i ≤ n)) × P (nodes i)))
      → events_at i move.step ≡ [] → GoesOn n start moves step ↔ GoesOn n start (moves ++ move ∷ []) step
  stays i step P law none = (
    λ on.
        let may = (law moves before.ends.0 before before.ends.1).0 on in
        (law (moves ++ move ∷ []) (behind i) run (ends_behind i none may.0.0 may.0.1)).1
        (may.0, subst P (sym (this_node run.ends.0 i (before.ends.0 i))) may.1),
    λ on.
        let bounds = ((law (moves ++ move ∷ []) run.ends.0 run run.ends.1).0 on).0 in
        let may = (law (moves ++ move ∷ []) (behind i) run (ends_behind i none bounds.0 bounds.1)).0 on in
        (law moves before.ends.0 before before.ends.1).1 (bounds, subst P (this_node run.ends.0 i (before.ends.0 i)) may.1),
  )
