-- How the next move of a run changes the nodes: one of them takes an event, or all stay.
use Rattle.std.proofs.Common.{◌≡◌, ◌≢◌, ℕ, ◌≤◌, List, [], ◌∷◌, ◌++◌, map, sym, ap, subst}
use Rattle.ra_node.specs.Node.{NodeState, opening_node}
use Rattle.ra_node.specs.Events.{Event, Happening, NodeEvent, NodeEvents}
use Rattle.ra_world.specs.Traffic.{Move}
use Rattle.ra_world.specs.Run.{events_at, happened_at, EndsWith}
use Rattle.ra_world.proofs.Moves.{happens, happened_more, only_at}
use Rattle.ra_schedule.specs.BelowFinishing.{LawsOfNodes}

-- the number is a node's
abbrev pub IsNode : ℕ → ℕ → Type 0
IsNode n i = (1 ≤ i) × (i ≤ n)

-- one node took an event, and the others stayed
pub record Moved (n : ℕ) (nodes nodes' : ℕ → NodeState) (move : Move) (p : ℕ) (event : Event) : Type 0 where
  pub within : IsNode n p
  pub happened : NodeEvent (nodes p) event move.sends move.marks (nodes' p)
  pub others : (k : ℕ) → IsNode n k → k ≢ p → nodes' k ≡ nodes k

module _ (laws : LawsOfNodes) (n start : ℕ) (moves : List Move) (move : Move) (nodes nodes' : ℕ → NodeState)
    (ends : EndsWith n start moves nodes) (ends' : EndsWith n start (moves ++ move ∷ []) nodes') where
  -- what happened at a node by the move alone
  last_part : (i : ℕ) → IsNode n i → NodeEvents (nodes i) (happens i move) (nodes' i)
  last_part i at =
      let whole = subst (λ (hs : List Happening). NodeEvents (opening_node i n start) hs (nodes' i)) (happened_more i moves move) (ends' i at.0 at.1) in
      let parts = laws.splits (happened_at i moves) (happens i move) (opening_node i n start) (nodes' i) whole in
      let same : parts.0 ≡ nodes i = laws.one_end (opening_node i n start) parts.0 (nodes i) (happened_at i moves) parts.1 (ends i at.0 at.1) in
      subst (λ (b : NodeState). NodeEvents b (happens i move) (nodes' i)) same parts.2

  pub stays : (i : ℕ) → IsNode n i → events_at i move.step ≡ [] → nodes' i ≡ nodes i
  stays i at none =
      subst (λ (hs : List Happening). NodeEvents (nodes i) hs (nodes' i))
      (ap (map (λ event. record { event = event; sends = move.sends; marks = move.marks })) none) (last_part i at)

  pub moved : (p : ℕ) (event : Event) → IsNode n p → events_at p move.step ≡ event ∷ [] → Moved n nodes nodes' move p event
  moved p event within here =
      let one = subst (λ (hs : List Happening). NodeEvents (nodes p) hs (nodes' p))
      (ap (map (λ event. record { event = event; sends = move.sends; marks = move.marks })) here) (last_part p within) in
      record {
        within = within;
        happened = subst (λ (b : NodeState). NodeEvent (nodes p) event move.sends move.marks b) (sym one.2) one.1;
        others = λ k at apart. stays k at (only_at p k move.step event here apart);
      }
