-- In a quiet run, a name that somebody waits for is held.
use Rattle.std.proofs.Common.{◌≡◌, ◌⊎◌, ℕ, ◌<◌, Option, Some, None, List, [], ◌++◌, Contains, map, refl, ap, ◌∙◌, subst, arith, inl, inr}
use Rattle.std.specs.Prelude.{option_to_list}
use Rattle.std.specs.Ordering.{nat_cmp}
use Rattle.std.specs.declared.cmp.Ordering.TheVariants.{Less, Equal, Greater}
use Rattle.std.specs.Cmp.Lexicographic.{slice_cmp, nat_list_cmp_total}
use Rattle.std.proofs.lemmas.Bool.{cases_eq, cases_lt, false≢true}
use Rattle.std.proofs.lemmas.Cmp.{tied_itself}
use Rattle.std.proofs.lemmas.List.Elements.{All-contains}
use Rattle.ra_stamp.specs.declared.entry.Entry.{Entry}
use Rattle.ra_stamp.specs.NodeId.{IsNodeNumber}
use Rattle.ra_stamp.specs.Stamp.{IsEarlier}
use Rattle.ra_automaton.specs.declared.phase.Phase.{Phase}
use Rattle.ra_automaton.specs.declared.phase.Phase.TheVariants.{Idle, Waiting, Inside}
use Rattle.ra_automaton.specs.State.{State}
use Rattle.ra_automaton.specs.Steps.{greatest_number}
use Rattle.ra_node.specs.declared.queued_client.Queued.{Queued}
use Rattle.ra_node.specs.Resource.{Resource, Use, use_in, use_of, held_entry, IsBusy, ClientFits}
use Rattle.ra_node.specs.Resource.Use.{Nobody, WaitsBy, HoldsBy}
use Rattle.ra_node.specs.Node.{NodeState, resource_at, IsConsistentNode}
use Rattle.ra_table.specs.Table.{LockTable, TableRun}
use Rattle.ra_world.specs.Traffic.{Move}
use Rattle.ra_world.specs.Run.{IsRun, EndsWith, marks_of}
use Rattle.ra_world.specs.Quiet.{IsQuiet}
use Rattle.ra_world.specs.AtNodes.{IsTableOf, IsOfNode}
use Rattle.ra_schedule.specs.LockOrder.{IsBelow}
use Rattle.ra_schedule.specs.BelowFinishing.{LawsOfRuns}
use Rattle.ra_schedule.proofs.ClientTurns.{HasIt}
use Rattle.ra_schedule.proofs.MovedNodes.{IsNode}
use Rattle.ra_schedule.proofs.Climbing.{climbed}

-- somebody holds this name
pub record IsTaken (n : ℕ) (nodes : ℕ → NodeState) (name : List ℕ) : Type 0 where
  pub i : ℕ
  pub client : ℕ
  pub within : IsNode n i
  pub has : HasIt (resource_at (nodes i) name) client

-- ---- Orders

-- a stamp is earlier than another, or it is not
earlier_or_not : (a b : Entry) → IsEarlier b.stamp a.stamp ⊎ (IsEarlier b.stamp a.stamp → ⊥)
earlier_or_not a b = elim (cases_lt b.stamp.seq a.stamp.seq) [
  | inl less ↦ inl (inl less)
  | inr over ↦ elim (cases_eq b.stamp.seq a.stamp.seq) [
    | inl same ↦ elim (cases_lt b.stamp.node a.stamp.node) [
      | inl less ↦ inl (inr (same, less))
      | inr more ↦ inr (λ e. elim e [ inl lower ↦ omega (arith, lower, over) | inr tied ↦ omega (arith, tied.1, more) ])
    ]
    | inr apart ↦ inr (λ e. elim e [ inl lower ↦ omega (arith, lower, over) | inr tied ↦ apart tied.0 ])
  ]
]

earlier_trans : (a b c : Entry) → IsEarlier b.stamp a.stamp → IsEarlier c.stamp b.stamp → IsEarlier c.stamp a.stamp
earlier_trans a b c (inl x) (inl y) = inl (omega (arith, x, y))
earlier_trans a b c (inl x) (inr y) = inl (omega (arith, x, y.0))
earlier_trans a b c (inr x) (inl y) = inl (omega (arith, x.0, y))
earlier_trans a b c (inr x) (inr y) = inr (omega (arith, x.0, y.0), omega (arith, x.1, y.1))

never_earlier : (a : Entry) → IsEarlier a.stamp a.stamp → ⊥
never_earlier a (inl x) = omega (arith, x)
never_earlier a (inr x) = omega (arith, x.1)

pub below_or_not : (a b : List ℕ) → IsBelow a b ⊎ (IsBelow a b → ⊥)
below_or_not a b = elim (slice_cmp nat_cmp a b) as (λ o. (o ≡ Less) ⊎ (o ≡ Less → ⊥)) [
  | Less ↦ inl refl
  | Equal ↦ inr (λ e. cc)
  | Greater ↦ inr (λ e. cc)
]

pub never_below : (a : List ℕ) → IsBelow a a → ⊥
never_below a below = let tied : slice_cmp nat_cmp a a ≡ Equal = tied_itself nat_list_cmp_total a in cc

-- ---- The use of a name

nobody_idle : (s : State) (phase : Phase) (client : Option ℕ) → ClientFits phase client → use_in s phase client ≡ Nobody → (phase ≡ Idle) × (client ≡ None)
nobody_idle s Idle client fits is = (refl, fits)
nobody_idle s (Waiting seq mode) None fits is = absurd (false≢true fits)
nobody_idle s (Waiting seq mode) (Some c) fits is = absurd cc
nobody_idle s (Inside seq mode) None fits is = absurd (false≢true fits)
nobody_idle s (Inside seq mode) (Some c) fits is = absurd cc

use_name : (s : State) (phase : Phase) (client : Option ℕ) (e : Entry) → use_in s phase client ≡ WaitsBy e → e.name ≡ s.name
use_name s phase None e is = absurd cc
use_name s Idle (Some c) e is = absurd cc
use_name s (Waiting seq mode) (Some c) e is = cc
use_name s (Inside seq mode) (Some c) e is = absurd cc

holds_by : (r : Resource) (e : Entry) → use_of r ≡ HoldsBy e → HasIt r e.client
holds_by r e is = (e, record { granted = ap held_entry is; client_is = refl })

queued_there : (client : Option ℕ) (queue : List Queued) (c : ℕ) → client ≡ None → Contains (option_to_list client ++ map (λ q. q.client) queue) c → queue ≡ [] → ⊥
queued_there client queue c nobody has none =
    let at : Contains [] c = subst (λ (qs : List Queued). Contains (map (λ q. q.client) qs) c) none
    (subst (λ (o : Option ℕ). Contains (option_to_list o ++ map (λ q. q.client) queue) c) nobody has) in
    omega (arith, at.1)

module _ (laws : LawsOfRuns) (n start : ℕ) (count : IsNodeNumber n) (moves : List Move) (run : IsRun n start moves) (quiet : IsQuiet moves)
    (nodes : ℕ → NodeState) (ends : EndsWith n start moves nodes) (each : (i : ℕ) → IsNode n i → IsConsistentNode (nodes i))
    (few : (i : ℕ) (name : List ℕ) → IsNode n i → (resource_at (nodes i) name).state.highest < greatest_number) where
  abbrev at : ℕ → List ℕ → Resource
  at i name = resource_at (nodes i) name

  table : (t : LockTable) × TableRun (marks_of moves) t
  table = laws.table n start moves count run

  of_nodes : IsTableOf n nodes table.0
  of_nodes = laws.table_of n start moves nodes table.0 count run ends table.1

  -- the entry waits for this name
  abbrev WaitsFor : List ℕ → Entry → Type 0
  WaitsFor name e = Contains table.0.waiting e × (e.name ≡ name)

  taken_by_entry : (name : List ℕ) (x : Entry) → Contains table.0.holding x → x.name ≡ name → IsTaken n nodes name
  taken_by_entry name x has named_so =
      let i = x.stamp.node in
      let within : IsNode n i = All-contains (IsOfNode n) table.0.holding x of_nodes.holding_nodes has in
      let there = (of_nodes.holding i name x within.0 within.1).0 (has, refl, named_so) in
      record { i = i; client = x.client; within = within; has = holds_by (at i name) x there }

  one_step : (name : List ℕ) (e : Entry) → WaitsFor name e → IsTaken n nodes name ⊎ ((f : Entry) × WaitsFor name f × IsEarlier f.stamp e.stamp)
  one_step name e waits = elim (laws.blocked n start moves table.0 e count run quiet table.1 waits.0) [
    | inl held ↦
        let x = held.1 in
        inl (taken_by_entry name x (held.0, held.2, held.3) (held.4.0 ∙ waits.1))
    | inr earlier ↦
        let x = earlier.1 in
        inr (x, ((earlier.0, earlier.2, earlier.3), earlier.4.0.0 ∙ waits.1), earlier.4.1)
  ]

  waited_for : (name : List ℕ) (e : Entry) → WaitsFor name e → IsTaken n nodes name
  waited_for name e waits =
      climbed (λ (a b : Entry). IsEarlier b.stamp a.stamp) earlier_or_not earlier_trans never_earlier (WaitsFor name) (IsTaken n nodes name) table.0.waiting
      (λ x p. p.0) (one_step name) e waits

  pub by_use : (i : ℕ) (name : List ℕ) (client : ℕ) → IsNode n i → IsBusy (at i name) client → (u : Use) → use_of (at i name) ≡ u → IsTaken n nodes name
  by_use i name client within busy Nobody is =
      let here = (each i within).each name in
      let idle = nobody_idle (at i name).state (at i name).state.phase (at i name).client here.client_fits is in
      let full = here.queue_stays idle.0 (queued_there (at i name).client (at i name).queue client idle.1 busy) in
      absurd (omega (arith, full, few i name within))
  by_use i name client within busy (WaitsBy e) is =
      let at_it = (of_nodes.waiting i name e within.0 within.1).1 is in
      waited_for name e (at_it.0, at_it.2)
  by_use i name client within busy (HoldsBy e) is =
      record { i = i; client = e.client; within = within; has = holds_by (at i name) e is }
