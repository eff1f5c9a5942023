-- What a node's use of a name says of its automaton, and what a request must find before it is granted.
use Rattle.std.proofs.Common.{◌≡◌, ◌≢◌, ◌⊎◌, ℕ, ◌≤◌, List, Option, Some, None, refl, sym, ap, ◌∙◌, subst, arith, inl, inr}
use Rattle.std.specs.Prelude.{IsTrue}
use Rattle.std.specs.Ordering.{nat_cmp}
use Rattle.std.specs.FinSet as set
use Rattle.std.proofs.lemmas.Bool.{cases_lt}
use Rattle.ra_stamp.specs.declared.mode.Mode.{Mode}
use Rattle.ra_stamp.specs.declared.message.Message.{Message}
use Rattle.ra_stamp.specs.declared.entry.Entry.{Entry}
use Rattle.ra_stamp.specs.Mode.{Conflict}
use Rattle.ra_stamp.specs.Stamp.{IsEarlier}
use Rattle.ra_automaton.specs.declared.phase.Phase.{Phase}
use Rattle.ra_automaton.specs.declared.phase.Phase.TheVariants.{Idle, Waiting, Inside}
use Rattle.ra_automaton.specs.State.{State, IsWaitingPhase, HasNumber, IsConsistent}
use Rattle.ra_automaton.specs.Steps.{OwnGoesFirst}
use Rattle.ra_node.specs.Resource.{Resource, use_in, use_of}
use Rattle.ra_node.specs.Resource.Use.{Nobody, WaitsBy, HoldsBy}
use Rattle.ra_node.specs.Node.{NodeState, resource_at}
use Rattle.ra_automaton.proofs.Apart.{cases_same}
use Rattle.ra_world.proofs.Members.{nobody}
use Rattle.ra_world.proofs.Protocol.{IsNode, HasOwn, LetsPass}
use Rattle.ra_world.proofs.Exchanges.{Exchanges}
use Rattle.ra_world.proofs.Marking.{entry_in_use}
use Rattle.ra_world.proofs.EventMarks.{MayBeGranted}

-- an entry is the request of an automaton
pub record IsRequestOf (s : State) (x : Entry) : Type 0 where
  pub node_is : x.stamp.node ≡ s.me
  pub name_is : x.name ≡ s.name

held_entry : (s : State) (phase : Phase) (client : Option ℕ) (x : Entry) → use_in s phase client ≡ HoldsBy x → (phase ≡ Inside x.stamp.seq x.mode) × IsRequestOf s x
held_entry s phase None x e = absurd (no e)
  where
    no : Nobody ≡ HoldsBy x → ⊥
    no k = cc
held_entry s Idle (Some client) x e = absurd (no e)
  where
    no : Nobody ≡ HoldsBy x → ⊥
    no k = cc
held_entry s (Waiting seq mode) (Some client) x e = absurd (no e)
  where
    no : {y : Entry} → WaitsBy y ≡ HoldsBy x → ⊥
    no k = cc
held_entry s (Inside seq mode) (Some client) x e =
    let is = ap (entry_in_use x) e in
    (λ i. Inside (is i).stamp.seq (is i).mode, record { node_is = sym (ap (λ (y : Entry). y.stamp.node) is); name_is = sym (ap (λ (y : Entry). y.name) is) })

waits_in : (s : State) (phase : Phase) (client : Option ℕ) (x : Entry) → use_in s phase client ≡ WaitsBy x → (phase ≡ Waiting x.stamp.seq x.mode) × IsRequestOf s x
waits_in s phase None x e = absurd (no e)
  where
    no : Nobody ≡ WaitsBy x → ⊥
    no k = cc
waits_in s Idle (Some client) x e = absurd (no e)
  where
    no : Nobody ≡ WaitsBy x → ⊥
    no k = cc
waits_in s (Inside seq mode) (Some client) x e = absurd (no e)
  where
    no : {y : Entry} → HoldsBy y ≡ WaitsBy x → ⊥
    no k = cc
waits_in s (Waiting seq mode) (Some client) x e =
    let is = ap (entry_in_use x) e in
    (λ i. Waiting (is i).stamp.seq (is i).mode, record { node_is = sym (ap (λ (y : Entry). y.stamp.node) is); name_is = sym (ap (λ (y : Entry). y.name) is) })

pub use_granted : (r : Resource) (x : Entry) → use_of r ≡ HoldsBy x → (r.state.phase ≡ Inside x.stamp.seq x.mode) × IsRequestOf r.state x
use_granted r x e = held_entry r.state r.state.phase r.client x e

pub use_waits : (r : Resource) (x : Entry) → use_of r ≡ WaitsBy x → (r.state.phase ≡ Waiting x.stamp.seq x.mode) × IsRequestOf r.state x
use_waits r x e = waits_in r.state r.state.phase r.client x e

-- ---- What a request finds that enters

own_inside : (phase : Phase) (k : ℕ) (m : Mode) → phase ≡ Inside k m → HasOwn phase k m
own_inside phase k m e = subst (λ (q : Phase). HasOwn q k m) (sym e) (refl, refl)

awaits_nobody : (s : State) (k : ℕ) (m : Mode) → IsConsistent s → s.phase ≡ Inside k m → (j : ℕ) → IsTrue (set.contains s.awaited j) → ⊥
awaits_nobody s k m consistent inside j awaited =
    nobody j (subst (λ (q : set.FinSet nat_cmp). IsTrue (set.contains q j)) (consistent.awaits_only (λ w. subst IsWaitingPhase inside w)) awaited)

one_is_earlier : (s i t j : ℕ) → i ≢ j → IsEarlier (record { seq = s; node = i }) (record { seq = t; node = j }) ⊎ IsEarlier (record { seq = t; node = j }) (record { seq = s; node = i })
one_is_earlier s i t j apart = elim (cases_lt s t) [
  | inl below ↦ inl (inl below)
  | inr above ↦ elim (cases_lt t s) [
    | inl below ↦ inr (inl below)
    | inr same ↦ elim (cases_lt i j) [
      | inl first ↦ inl (inr (omega (arith, above, same), first))
      | inr later ↦ inr (inr (omega (arith, above, same), omega (arith, later, apart)))
    ]
  ]
]

module _ {Lossy : Type 0} (symmetric : (a b : Mode) → Conflict a b → Conflict b a) (start n : ℕ) (r : List ℕ) (nodes : ℕ → NodeState) (bag : List Message) (holds : Exchanges Lossy start n r (λ i. (resource_at (nodes i) r).state) bag) (p : ℕ) (within : IsNode n p) (e : Entry)
    (granted : use_of (resource_at (nodes p) r) ≡ HoldsBy e) where
  abbrev s : ℕ → State
  s i = (resource_at (nodes i) r).state

  inside : (s p).phase ≡ Inside e.stamp.seq e.mode
  inside = (use_granted (resource_at (nodes p) r) e granted).0

  node_is : e.stamp.node ≡ p
  node_is = (use_granted (resource_at (nodes p) r) e granted).1.node_is ∙ (holds.each p within).me_is

  passed_by : (j : ℕ) → IsNode n j → j ≢ p → LetsPass (s j) p e.stamp.seq e.mode
  passed_by j at apart =
      holds.passed p j e.stamp.seq e.mode within at (λ k. apart (sym k)) (own_inside (s p).phase e.stamp.seq e.mode inside)
      (awaits_nobody (s p) e.stamp.seq e.mode (holds.each p within).consistent inside j)

  not_before : (j : ℕ) (x : Entry) → IsNode n j → j ≢ p → HasOwn (s j).phase x.stamp.seq x.mode → x.stamp.node ≡ j → Conflict x.mode e.mode → IsEarlier x.stamp e.stamp → ⊥
  not_before j x at apart own node conflict earlier =
      (passed_by j at apart).not_first (goes_first (s j).phase own)
    where
      earlier' : IsEarlier (record { seq = x.stamp.seq; node = (s j).me }) (record { seq = e.stamp.seq; node = p })
      earlier' = subst (λ (k : ℕ). IsEarlier (record { seq = x.stamp.seq; node = k }) (record { seq = e.stamp.seq; node = p })) (node ∙ sym (holds.each j at).me_is)
          (subst (λ (k : ℕ). IsEarlier x.stamp (record { seq = e.stamp.seq; node = k })) node_is earlier)

      goes_first : (phase : Phase) → HasOwn phase x.stamp.seq x.mode → OwnGoesFirst phase (s j).me p e.stamp.seq e.mode
      goes_first Idle h = h
      goes_first (Waiting k m) h =
          record { excludes = subst (λ (q : Mode). Conflict q e.mode) (sym h.1) conflict; earlier = subst (λ (q : ℕ). IsEarlier (record { seq = q; node = (s j).me }) (record { seq = e.stamp.seq; node = p })) (sym h.0) earlier' }
      goes_first (Inside k m) h =
          record { excludes = subst (λ (q : Mode). Conflict q e.mode) (sym h.1) conflict; earlier = subst (λ (q : ℕ). IsEarlier (record { seq = q; node = (s j).me }) (record { seq = e.stamp.seq; node = p })) (sym h.0) earlier' }

  not_after : (j : ℕ) (x : Entry) → IsNode n j → j ≢ p → (s j).phase ≡ Inside x.stamp.seq x.mode → x.stamp.node ≡ j → Conflict x.mode e.mode → IsEarlier e.stamp x.stamp → ⊥
  not_after j x at apart there node conflict earlier =
      let pass = holds.passed j p x.stamp.seq x.mode at within apart (own_inside (s j).phase x.stamp.seq x.mode there) (awaits_nobody (s j) x.stamp.seq x.mode (holds.each j at).consistent there p) in
      pass.not_first (subst (λ (q : Phase). OwnGoesFirst q (s p).me j x.stamp.seq x.mode) (sym inside) (record {
        excludes = symmetric x.mode e.mode conflict;
        earlier = subst (λ (k : ℕ). IsEarlier (record { seq = e.stamp.seq; node = k }) (record { seq = x.stamp.seq; node = j })) (node_is ∙ sym (holds.each p within).me_is)
            (subst (λ (k : ℕ). IsEarlier e.stamp (record { seq = x.stamp.seq; node = k })) node earlier);
      }))

  pub may_be_granted : MayBeGranted n (λ i q. use_of (resource_at (nodes i) q)) (λ i q. (resource_at (nodes i) q).state.highest) p r e
  may_be_granted =
      record {
        met = λ j at. elim (cases_same j p) [
          | inl same ↦
              let numbered : HasNumber (Inside e.stamp.seq e.mode) (s p).highest = subst (λ (q : Phase). HasNumber q (s p).highest) inside (holds.each p within).consistent.numbered in
              subst (λ (k : ℕ). e.stamp.seq ≤ (s k).highest) (sym same) numbered.1
          | inr apart ↦ (passed_by j at apart).reached
        ];
        free = λ j x at apart is conflict.
            let there = use_granted (resource_at (nodes j) r) x is in
            let node = there.1.node_is ∙ (holds.each j at).me_is in
            elim (one_is_earlier x.stamp.seq x.stamp.node e.stamp.seq e.stamp.node (λ k. apart (sym node ∙ k ∙ node_is))) [
              | inl before ↦ not_before j x at apart (own_inside (s j).phase x.stamp.seq x.mode there.0) node conflict before
              | inr after ↦ not_after j x at apart there.0 node conflict after
            ];
        first = λ j x at apart is conflict earlier.
            let there = use_waits (resource_at (nodes j) r) x is in
            not_before j x at apart (subst (λ (q : Phase). HasOwn q x.stamp.seq x.mode) (sym there.0) (refl, refl)) (there.1.node_is ∙ (holds.each j at).me_is) conflict earlier;
      }
