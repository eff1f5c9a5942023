-- If nothing is under way and nobody waits, nobody is deferred.
use Rattle.std.proofs.Common.{◌≡◌, ◌⊎◌, ℕ, zero, suc, ◌+◌, ◌<◌, ◌≤◌, true, false, cond, T, List, [], ◌∷◌, Contains, length, Option, Some, None, refl, sym, ap, ◌∙◌, subst, arith, inl, inr}
use Rattle.std.specs.Prelude.{sum_by}
use Rattle.std.specs.List.{range_with_len}
use Rattle.std.specs.Ordering.{nat_cmp, eq_by_cmp, is_eq}
use Rattle.std.specs.declared.cmp.Ordering.{Ordering}
use Rattle.std.specs.declared.cmp.Ordering.TheVariants.{Less, Equal, Greater}
use Rattle.std.specs.Cmp.{tied_itself}
use Rattle.std.specs.Cmp.Lexicographic.{nat_list_cmp_total}
use Rattle.std.specs.FinMap as finmap
use Rattle.std.specs.FinMap.Entries.{find, is_sorted, below_all}
use Rattle.std.proofs.lemmas.List.Sums.{sum_by-cons}
use Rattle.std.proofs.lemmas.Bool.{false≢true}
use Rattle.ra_stamp.specs.declared.message.Message.{Message}
use Rattle.ra_stamp.specs.declared.entry.Entry.{Entry}
use Rattle.ra_automaton.specs.declared.phase.Phase.{Phase}
use Rattle.ra_automaton.specs.declared.phase.Phase.TheVariants.{Idle, Waiting, Inside}
use Rattle.ra_automaton.specs.State.{State}
use Rattle.ra_node.specs.Resource.{Resource, use_in, ClientFits, entry_of}
use Rattle.ra_node.specs.Resource.Use.{WaitsBy}
use Rattle.ra_node.specs.Node.{NodeState, resource_at}
use Rattle.ra_table.specs.Table.{LockTable}
use Rattle.ra_node.proofs.Lookups.{true_of}
use Rattle.ra_automaton.proofs.Apart.{tied}
use Rattle.ra_world.proofs.Protocol.{IsNode}
use Rattle.ra_world.proofs.Tables.{of_contains}
use Rattle.ra_world.proofs.Marking.{waiting_of}
use Rattle.ra_world.proofs.WaitingCounts.{cmp, value_or, not_found, found_value, total, over}
use Rattle.ra_world.proofs.Balance.{owed}
use Rattle.ra_world.proofs.Cluster.{uses, Invariant}

-- ---- Sums of nothing

equal_of : (o : Ordering) → is_eq o ≡ true → o ≡ Equal
equal_of Less k = absurd (false≢true k)
equal_of Equal k = refl
equal_of Greater k = absurd (false≢true k)

sum_zero : (f : Resource → ℕ) (es : List (List ℕ × Resource)) → T (is_sorted cmp es) → ((k : List ℕ) → value_or f (find cmp k es) ≡ 0) → sum_by (λ e. f e.1) es ≡ 0
sum_zero f [] t none = refl
sum_zero f (e ∷ es) t none =
    let both = true_of (below_all cmp e.0 es) (is_sorted cmp es) t in
    let here : f e.1 ≡ 0 = ap (λ (o : Ordering). value_or f (cond (is_eq o) (Some e.1) (find cmp e.0 es))) (sym (tied_itself nat_list_cmp_total e.0)) ∙ none e.0 in
    let rest : (k : List ℕ) → value_or f (find cmp k es) ≡ 0 = λ k. later k both.0 in
    omega (arith, here, sum_zero f es both.1 rest, sum_by-cons (λ (x : List ℕ × Resource). f x.1) e es)
  where
    later : (k : List ℕ) → T (below_all cmp e.0 es) → value_or f (find cmp k es) ≡ 0
    later k below =
        elim (eq_by_cmp cmp k e.0) as (λ b. eq_by_cmp cmp k e.0 ≡ b → value_or f (find cmp k es) ≡ 0) [
          | true ↦ λ same.
              let is : k ≡ e.0 = finmap.slice_cmp-IsAntisymmetric finmap.nat_cmp-IsAntisymmetric k e.0 (equal_of (cmp k e.0) same) in
              ap (λ (q : List ℕ). value_or f (find cmp q es)) is ∙ ap (value_or f) (not_found e.0 es below)
          | false ↦ λ apart. ap (λ b. value_or f (cond b (Some e.1) (find cmp k es))) (sym apart) ∙ none k
        ] refl

over_zero : (f : Resource → ℕ) (nodes : ℕ → NodeState) (first n : ℕ) → ((i : ℕ) → first ≤ i → i < first + n → total f (nodes i) ≡ 0) → over f nodes first n ≡ 0
over_zero f nodes first zero h = refl
over_zero f nodes first (suc n) h =
    omega (
      arith,
      h first (omega arith) (omega arith),
      over_zero f nodes (first + 1) n (λ i low high. h i (omega (arith, low)) (omega (arith, high))),
      sum_by-cons (λ (i : ℕ). total f (nodes i)) first (range_with_len (first + 1) n),
    )

-- ---- Nobody is deferred

waits_as_use : (s : State) (phase : Phase) (client : Option ℕ) (seq : ℕ) (mode : _) → ClientFits phase client → phase ≡ Waiting seq mode → (x : Entry) × (use_in s phase client ≡ WaitsBy x)
waits_as_use s Idle client seq mode fits e = absurd (no e)
  where
    no : Idle ≡ Waiting seq mode → ⊥
    no k = cc
waits_as_use s (Waiting k m) None seq mode fits e = absurd (false≢true fits)
waits_as_use s (Waiting k m) (Some c) seq mode fits e = (entry_of s.me s.name k c m, refl)
waits_as_use s (Inside k m) client seq mode fits e = absurd (no e)
  where
    no : Inside k m ≡ Waiting seq mode → ⊥
    no x = cc

some_entry : (m : finmap.FinMap nat_cmp ℕ) → (finmap.len m ≡ 0) ⊎ ((i : ℕ) × (d : ℕ) × (finmap.get m i ≡ Some d))
some_entry m = go (finmap.entries m) refl
  where
    go : (es : List (ℕ × ℕ)) → finmap.entries m ≡ es → (finmap.len m ≡ 0) ⊎ ((i : ℕ) × (d : ℕ) × (finmap.get m i ≡ Some d))
    go [] e = inl (finmap.len-entries m ∙ ap length e)
    go (x ∷ es) e = inr (x.0, x.1, finmap.get-entries m x.0 ∙ ap (find nat_cmp x.0) e ∙ ap (λ b. cond b (Some x.1) (find nat_cmp x.0 es)) (tied x.0 x.0 refl))

some_none : (d : ℕ) → ◌≡◌ {A = Option ℕ} (Some d) None → ⊥
some_none d e = cc

nothing_some : {x : Message} {xs : List Message} → [] ≡ x ∷ xs → ⊥
nothing_some k = cc

module _ (start n : ℕ) (nodes : ℕ → NodeState) (table : LockTable) (holds : Invariant ⊥ ⊥ start n nodes [] table) (nobody : length table.waiting ≡ 0) where
  not_waiting : (i : ℕ) (r : List ℕ) (x : Entry) → IsNode n i → uses nodes i r ≡ WaitsBy x → ⊥
  not_waiting i r x at is =
      let there = of_contains i r table.waiting x (subst (λ (es : List Entry). Contains es x) (sym (holds.tabled.waiting i r at ∙ ap waiting_of is)) (0, omega arith, refl)) in
      omega (arith, nobody, there.1)

  none_owed : (j : ℕ) (r : List ℕ) → IsNode n j → owed (resource_at (nodes j) r) ≡ 0
  none_owed j r at = elim (some_entry (resource_at (nodes j) r).state.deferred) [
    | inl none ↦ none
    | inr some ↦
        let i = some.0 in
        let protocol = (holds.protocol r).exact (λ x. x) in
        let placed = protocol.each j at in
        let other = placed.consistent.deferred_others i some.1 some.2 in
        let i_at : IsNode n i = (other.first, subst (λ (k : ℕ). i ≤ k) placed.nodes_is other.last) in
        absurd (elim (protocol.dialog i j i_at at (λ e. other.other (e ∙ sym placed.me_is))) [
          | inl silent ↦ some_none some.1 (sym some.2 ∙ silent.not_deferred)
          | inr x ↦ elim x [
            | inl asking ↦ nothing_some asking.asks
            | inr y ↦ elim y [
              | inl held ↦
                  let here = (holds.each i i_at).consistent.each r in
                  let stands = waits_as_use (resource_at (nodes i) r).state (resource_at (nodes i) r).state.phase (resource_at (nodes i) r).client held.seq held.mode here.client_fits held.awaits.waits in
                  not_waiting i r stands.0 i_at stands.1
              | inr answered ↦ nothing_some answered.answers
            ]
          ]
        ])
  ]

  pub nothing_owed : over owed nodes 1 n ≡ 0
  nothing_owed =
      over_zero owed nodes 1 n (λ i low high.
      let node = nodes i in
      sum_zero owed (finmap.entries node.resources) (finmap.entries_sorted node.resources)
      (λ k. ap (value_or owed) (sym (finmap.get-entries node.resources k)) ∙ sym (found_value owed (λ me count name start. finmap.len-empty nat_cmp ℕ) node k (finmap.get node.resources k)) ∙ none_owed i k (low, omega (arith, high))))
