-- If nothing was lost and nothing is under way, each request that waits is blocked.
use Rattle.std.proofs.Common.{◌≡◌, ◌≢◌, ◌⊎◌, ℕ, ◌≤◌, List, [], ◌∷◌, Contains, ◌||◌, Option, Some, None, refl, sym, ap, ◌∙◌, subst, arith, inl, inr}
use Rattle.std.specs.Prelude.{IsTrue}
use Rattle.std.specs.List.{list_any}
use Rattle.std.specs.Ordering.{nat_cmp, eq_by_cmp}
use Rattle.std.specs.Cmp.{nat_cmp_total}
use Rattle.std.specs.FinSet as set
use Rattle.std.proofs.lemmas.Bool.{false≢true}
use Rattle.ra_stamp.specs.declared.mode.Mode.{Mode}
use Rattle.ra_stamp.specs.declared.entry.Entry.{Entry}
use Rattle.ra_stamp.specs.Stamp.{IsEarlier}
use Rattle.ra_automaton.specs.declared.phase.Phase.{Phase}
use Rattle.ra_automaton.specs.declared.phase.Phase.TheVariants.{Idle, Waiting, Inside}
use Rattle.ra_automaton.specs.State.{State, IsWaitingPhase}
use Rattle.ra_automaton.specs.Steps.{OwnGoesFirst, GoesFirst}
use Rattle.ra_node.specs.Resource.{Use, use_in, entry_of, ClientFits}
use Rattle.ra_node.specs.Resource.Use.{WaitsBy, HoldsBy}
use Rattle.ra_node.specs.Node.{NodeState, resource_at}
use Rattle.ra_table.specs.Table.{LockTable}
use Rattle.ra_world.specs.Quiet.{IsBlocked}
use Rattle.ra_automaton.proofs.Apart.{tied}
use Rattle.ra_world.proofs.Protocol.{IsNode}
use Rattle.ra_world.proofs.Exchanges.{Holds}
use Rattle.ra_world.proofs.Tables.{contains_of, of_contains}
use Rattle.ra_world.proofs.Marking.{waiting_of, granted_of, is_waiting}
use Rattle.ra_world.proofs.Uses.{use_waits}
use Rattle.ra_world.proofs.Cluster.{uses, Invariant}

-- a set that is not empty has a member
has_member : (s : set.FinSet nat_cmp) → (s ≡ set.empty → ⊥) → (j : ℕ) × IsTrue (set.contains s j)
has_member s some = go (set.items s) refl
  where
    go : (xs : List ℕ) → set.items s ≡ xs → (j : ℕ) × IsTrue (set.contains s j)
    go [] e =
        absurd (some (set.same_set nat_cmp_total set.nat_cmp-IsAntisymmetric s set.empty
        (λ q. set.contains-items s q ∙ ap (list_any (eq_by_cmp nat_cmp q)) e ∙ sym (set.contains-empty nat_cmp q))))
    go (x ∷ xs) e = (x, set.contains-items s x ∙ ap (list_any (eq_by_cmp nat_cmp x)) e ∙ ap (λ b. b || list_any (eq_by_cmp nat_cmp x) xs) (tied x x refl))

-- a request of a node that goes first, in the words of its use of the name
pub record Precedes (s : State) (w : Use) (other seq : ℕ) (mode : Mode) : Type 0 where
  pub entry : Entry
  pub stands : (w ≡ WaitsBy entry) ⊎ (w ≡ HoldsBy entry)
  pub node_is : entry.stamp.node ≡ s.me
  pub name_is : entry.name ≡ s.name
  pub first : GoesFirst s.me entry.stamp.seq entry.mode other seq mode

precedes_in : (s : State) (phase : Phase) (client : Option ℕ) (other seq : ℕ) (mode : Mode) → ClientFits phase client → OwnGoesFirst phase s.me other seq mode → Precedes s (use_in s phase client) other seq mode
precedes_in s Idle client other seq mode fits first = absurd first
precedes_in s (Waiting k m) None other seq mode fits first = absurd (false≢true fits)
precedes_in s (Waiting k m) (Some c) other seq mode fits first = record { entry = entry_of s.me s.name k c m; stands = inl refl; node_is = refl; name_is = refl; first = first }
precedes_in s (Inside k m) None other seq mode fits first = absurd (false≢true fits)
precedes_in s (Inside k m) (Some c) other seq mode fits first = record { entry = entry_of s.me s.name k c m; stands = inr refl; node_is = refl; name_is = refl; first = first }

module _ (Copied : Type 0) (start n : ℕ) (nodes : ℕ → NodeState) (table : LockTable) (holds : Invariant ⊥ Copied start n nodes [] table) (e : Entry) (waits : Contains table.waiting e) where
  abbrev i : ℕ
  i = e.stamp.node

  abbrev r : List ℕ
  r = e.name

  abbrev s : ℕ → State
  s k = (resource_at (nodes k) r).state

  within : IsNode n i
  within = holds.tabled.waiting_known e waits

  waits_there : uses nodes i r ≡ WaitsBy e
  waits_there = is_waiting (uses nodes i r) e (subst (λ (es : List Entry). Contains es e) (holds.tabled.waiting i r within) (contains_of table.waiting e waits))

  phase_is : (s i).phase ≡ Waiting e.stamp.seq e.mode
  phase_is = (use_waits (resource_at (nodes i) r) e waits_there).0

  -- somebody is awaited
  awaited : (j : ℕ) × IsTrue (set.contains (s i).awaited j)
  awaited =
      let consistent = ((holds.protocol r).exchanges.each i within).consistent in
      has_member (s i).awaited (consistent.awaits (subst IsWaitingPhase (sym phase_is) tt))

  abbrev j : ℕ
  j = awaited.0

  j_within : IsNode n j
  j_within =
      let placed = (holds.protocol r).exchanges.each i within in
      let other = placed.consistent.awaited_others j awaited.1 in
      (other.first, subst (λ (k : ℕ). j ≤ k) placed.nodes_is other.last)

  apart : i ≢ j
  apart is =
      let placed = (holds.protocol r).exchanges.each i within in
      (placed.consistent.awaited_others j awaited.1).other (sym is ∙ sym placed.me_is)

  -- so its REPLY is deferred there
  deferred : Holds (s j) i e.stamp.seq e.mode
  deferred = elim (((holds.protocol r).exchanges.dialog i j within j_within apart).pending e.stamp.seq e.mode (record { waits = phase_is; awaited = awaited.1 })) [
    | inl lost ↦ absurd lost
    | inr x ↦ elim x [
      | inl asking ↦ absurd (omega (arith, asking.1))
      | inr y ↦ elim y [ inl held ↦ held | inr answered ↦ absurd (omega (arith, answered.1)) ]
    ]
  ]

  -- with a request of its own that goes first
  precedes : Precedes (s j) (uses nodes j r) i e.stamp.seq e.mode
  precedes =
      let here = (holds.each j j_within).consistent.each r in
      precedes_in (s j) (s j).phase (resource_at (nodes j) r).client i e.stamp.seq e.mode here.client_fits deferred.own_first

  pub blocked : IsBlocked table e
  blocked =
      let x = precedes.entry in
      let placed = (holds.protocol r).exchanges.each j j_within in
      let named : x.name ≡ r = precedes.name_is ∙ placed.name_is in
      elim precedes.stands [
        | inl there ↦
            let at = of_contains j r table.waiting x (subst (λ (es : List Entry). Contains es x) (sym (holds.tabled.waiting j r j_within ∙ ap waiting_of there)) (0, omega arith, refl)) in
            let earlier = subst (λ (k : ℕ). IsEarlier (record { seq = x.stamp.seq; node = k }) e.stamp) (sym precedes.node_is) precedes.first.earlier in
            inr (at.0, x, at.1, at.2, ((named, precedes.first.excludes), earlier))
        | inr there ↦
            let at = of_contains j r table.holding x (subst (λ (es : List Entry). Contains es x) (sym (holds.tabled.holding j r j_within ∙ ap granted_of there)) (0, omega arith, refl)) in
            inl (at.0, x, at.1, at.2, (named, precedes.first.excludes))
      ]
