-- In a quiet run whose clients take names in order, each name that is waited for is held, and a client that holds it waits
-- only for names above it. So of the names that are waited for, the holder of the greatest one does not wait.
use Rattle.std.proofs.Common.{◌≡◌, ◌≢◌, ◌⊎◌, ℕ, zero, suc, ◌+◌, ◌<◌, List, [], ◌∷◌, Contains, refl, sym, subst, arith, inl, inr}
use Rattle.std.specs.Cmp.Lexicographic.{nat_list_cmp_total}
use Rattle.std.proofs.lemmas.Bool.{cases_eq}
use Rattle.ra_stamp.specs.NodeId.{IsNodeNumber}
use Rattle.ra_automaton.specs.Steps.{greatest_number}
use Rattle.ra_node.specs.Resource.{clients_of, use_of}
use Rattle.ra_node.specs.Node.{NodeState, opening_node, resource_at}
use Rattle.ra_world.specs.Traffic.{Move}
use Rattle.ra_world.specs.Run.{IsRun, EndsWith, happened_at, marks_of}
use Rattle.ra_world.specs.Quiet.{IsQuiet, requests_in}
use Rattle.ra_schedule.specs.LockOrder.{IsBelow}
use Rattle.ra_schedule.specs.Orderly.{HoldsName, WaitsForName, TakeNamesInOrder, SomeoneCanGoOn, IsHeldInOrder}
use Rattle.ra_schedule.specs.BelowFinishing.{LawsOfNodes, LawsOfRuns}
use Rattle.ra_schedule.proofs.ClientTurns.{has_or_not, holder_stands}
use Rattle.ra_schedule.proofs.MovedNodes.{IsNode}
use Rattle.ra_schedule.proofs.Climbing.{climbed}
use Rattle.ra_schedule.proofs.TakenNames.{IsTaken, below_or_not, never_below, by_use}
use Rattle.ra_schedule.proofs.Ascending.{AllAscend, names_asked, all_ascend}

-- ---- Whether a client waits

in_or_not : (xs : List ℕ) (y : ℕ) → Contains xs y ⊎ (Contains xs y → ⊥)
in_or_not [] y = inr (λ h. omega (arith, h.1))
in_or_not (x ∷ xs) y = elim (cases_eq x y) [
  | inl same ↦ inl (0, omega arith, same)
  | inr apart ↦ elim (in_or_not xs y) [
    | inl later ↦ inl (suc later.0, omega (arith, later.1), later.2)
    | inr none ↦ inr (λ h. not_there x xs y apart none h)
  ]
]
  where
    not_there : (x : ℕ) (xs : List ℕ) (y : ℕ) → x ≢ y → (Contains xs y → ⊥) → Contains (x ∷ xs) y → ⊥
    not_there x xs y apart none (zero, within, is) = apart is
    not_there x xs y apart none (suc k, within, is) = none (k, omega (arith, within), is)

waits_or_not : (node : NodeState) (client : ℕ) (name : List ℕ) → WaitsForName node client name ⊎ (WaitsForName node client name → ⊥)
waits_or_not node client name = elim (has_or_not (resource_at node name) client) [
  | inl has ↦ inr (λ w. w.1 has)
  | inr out ↦ elim (in_or_not (clients_of (resource_at node name)) client) [
    | inl busy ↦ inl (busy, out)
    | inr none ↦ inr (λ w. none w.0)
  ]
]

-- the client waits for one of these names, or for none of them
one_or_none : (node : NodeState) (client : ℕ) (names : List (List ℕ))
    → ((name : List ℕ) × WaitsForName node client name) ⊎ ((name : List ℕ) → Contains names name → WaitsForName node client name → ⊥)
one_or_none node client [] = inr (λ name has. absurd (omega (arith, has.1)))
one_or_none node client (x ∷ names) = elim (waits_or_not node client x) [
  | inl waits ↦ inl (x, waits)
  | inr not ↦ elim (one_or_none node client names) [
    | inl later ↦ inl later
    | inr none ↦ inr (λ name has waits. neither x names name not none has waits)
  ]
]
  where
    neither : (x : List ℕ) (names : List (List ℕ)) (name : List ℕ) → (WaitsForName node client x → ⊥)
        → ((name : List ℕ) → Contains names name → WaitsForName node client name → ⊥) → Contains (x ∷ names) name → WaitsForName node client name → ⊥
    neither x names name not none (zero, within, is) waits = not (subst (WaitsForName node client) (sym is) waits)
    neither x names name not none (suc k, within, is) waits = none name (k, omega (arith, within), is) waits

-- ---- Which client waits for which

module _ (nodes_laws : LawsOfNodes) (laws : LawsOfRuns) (n start : ℕ) (count : IsNodeNumber n) (moves : List Move) (run : IsRun n start moves) (quiet : IsQuiet moves)
    (all : AllAscend n start moves) (few : start + requests_in (marks_of moves) < greatest_number) where
  left : (i : ℕ) (name : List ℕ) → IsNode n i → (resource_at (all.nodes i) name).state.highest < greatest_number
  left i name at = omega (arith, few, laws.highest n start moves all.nodes i name count run all.ends at.0 at.1)

  taken : (i client : ℕ) (name : List ℕ) → IsNode n i → WaitsForName (all.nodes i) client name → IsTaken n all.nodes name
  taken i client name at waits =
      let r = resource_at (all.nodes i) name in
      by_use laws n start count moves run quiet all.nodes all.ends (λ k here. (all.each k here).consistent) left i name client at waits.0 (use_of r) (refl {a = use_of r})

  -- a client that holds this name and waits for another waits for one above it
  ascends : (i client : ℕ) (name other : List ℕ) → IsNode n i → HoldsName (all.nodes i) client name → WaitsForName (all.nodes i) client other → IsBelow name other
  ascends i client name other at holds waits =
      (all.above i client other name at waits (holder_stands (resource_at (all.nodes i) name) client holds) (λ same.
      waits.1 (subst (λ (x : List ℕ). HoldsName (all.nodes i) client x) same holds))).1

  held_in_order : (i client : ℕ) (name : List ℕ) → IsNode n i → WaitsForName (all.nodes i) client name → IsHeldInOrder n all.nodes name
  held_in_order i client name at waits =
      let t = taken i client name at waits in
      record {
        node = t.i;
        within = t.within;
        client = t.client;
        holds = t.has;
        ascends = λ j holder other there holds waits_there. ascends j holder name other there holds waits_there;
      }

  -- somebody waits for this name
  record IsWanted (name : List ℕ) : Type 0 where
    pub i : ℕ
    pub client : ℕ
    pub within : IsNode n i
    pub waits : WaitsForName (all.nodes i) client name

  -- the name is this one or one above it, and somebody waits for it
  abbrev IsWantedFrom : List ℕ → List ℕ → Type 0
  IsWantedFrom first name = IsWanted name × ((name ≡ first) ⊎ IsBelow first name)

  rises : (first name : List ℕ) → IsWantedFrom first name → SomeoneCanGoOn n all.nodes first ⊎ ((other : List ℕ) × IsWantedFrom first other × IsBelow name other)
  rises first name (wanted, from) =
      let t = taken wanted.i wanted.client name wanted.within wanted.waits in
      elim (one_or_none (all.nodes t.i) t.client (names_asked moves)) [
        | inl waits ↦
            let other = waits.0 in
            let up = ascends t.i t.client name other t.within t.has waits.1 in
            inr (other, (record { i = t.i; client = t.client; within = t.within; waits = waits.1 }, inr (higher first name other from up)), up)
        | inr none ↦ inl (record {
          node = t.i;
          within = t.within;
          client = t.client;
          held = name;
          holds = t.has;
          not_below = from;
          free = λ other waits. none other (all.known t.i t.client other t.within waits.0) waits;
        })
      ]
    where
      higher : (first name other : List ℕ) → (name ≡ first) ⊎ IsBelow first name → IsBelow name other → IsBelow first other
      higher first name other (inl same) up = subst (λ (x : List ℕ). IsBelow x other) same up
      higher first name other (inr below) up = nat_list_cmp_total.trans first name other below up

  can_go_on : (i client : ℕ) (name : List ℕ) → IsNode n i → WaitsForName (all.nodes i) client name → SomeoneCanGoOn n all.nodes name
  can_go_on i client name at waits =
      climbed IsBelow below_or_not nat_list_cmp_total.trans never_below (IsWantedFrom name) (SomeoneCanGoOn n all.nodes name) (names_asked moves)
      (λ x p. all.known p.0.i p.0.client x p.0.within p.0.waits.0) (rises name) name
      (record { i = i; client = client; within = at; waits = waits }, inl refl)

-- ---- At the nodes after the run

module _ (nodes_laws : LawsOfNodes) (laws : LawsOfRuns) (n start : ℕ) (moves : List Move) (nodes : ℕ → NodeState) (count : IsNodeNumber n) (run : IsRun n start moves)
    (ends : EndsWith n start moves nodes) (quiet : IsQuiet moves) (ordered : TakeNamesInOrder n start moves) (few : start + requests_in (marks_of moves) < greatest_number) where
  all : AllAscend n start moves
  all = all_ascend nodes_laws laws n start count moves run ordered

  same : (i : ℕ) → IsNode n i → all.nodes i ≡ nodes i
  same i within = nodes_laws.one_end (opening_node i n start) (all.nodes i) (nodes i) (happened_at i moves) (all.ends i within.0 within.1) (ends i within.0 within.1)

  waited : (i client : ℕ) (name : List ℕ) → IsNode n i → WaitsForName (nodes i) client name → WaitsForName (all.nodes i) client name
  waited i client name at waits = subst (λ (s : NodeState). WaitsForName s client name) (sym (same i at)) waits

  pub someone_can_go_on : (node client : ℕ) (name : List ℕ) → IsNode n node → WaitsForName (nodes node) client name → SomeoneCanGoOn n nodes name
  someone_can_go_on node client name at waits =
      let found = can_go_on nodes_laws laws n start count moves run quiet all few node client name at (waited node client name at waits) in
      record {
        node = found.node;
        within = found.within;
        client = found.client;
        held = found.held;
        holds = subst (λ (s : NodeState). HoldsName s found.client found.held) (same found.node found.within) found.holds;
        not_below = found.not_below;
        free = λ other w. found.free other (waited found.node found.client other found.within w);
      }

  pub someone_holds_it : (node client : ℕ) (name : List ℕ) → IsNode n node → WaitsForName (nodes node) client name → IsHeldInOrder n nodes name
  someone_holds_it node client name at waits =
      let found = held_in_order nodes_laws laws n start count moves run quiet all few node client name at (waited node client name at waits) in
      record {
        node = found.node;
        within = found.within;
        client = found.client;
        holds = subst (λ (s : NodeState). HoldsName s found.client name) (same found.node found.within) found.holds;
        ascends = λ i holder other there holds w.
            found.ascends i holder other there (subst (λ (s : NodeState). HoldsName s holder name) (sym (same i there)) holds) (waited i holder other there w);
      }
