-- Each mark of a node is a step of the lock table.
use Rattle.std.proofs.Common.{◌≡◌, ◌≢◌, ℕ, zero, suc, ◌<◌, ◌≤◌, true, false, List, [], ◌∷◌, ◌++◌, Contains, length, get_or, refl, sym, ap, ◌∙◌, subst, arith, inl, inr}
use Rattle.std.proofs.lemmas.List.{get_or_default}
use Rattle.std.proofs.lemmas.List.Elements.{Contains-append_left, Contains-append_right, Contains-append_cases}
use Rattle.ra_stamp.specs.declared.entry.Entry.{Entry}
use Rattle.ra_stamp.specs.declared.entry.Mark.TheVariants.{Requested, Entered, Left, Withdrawn}
use Rattle.ra_stamp.specs.Mode.{Conflict}
use Rattle.ra_stamp.specs.Stamp.{IsEarlier}
use Rattle.ra_node.specs.Resource.{Use}
use Rattle.ra_node.specs.Resource.Use.{Nobody, WaitsBy, HoldsBy}
use Rattle.ra_table.specs.Table.{LockTable, Loses, Excludes, TableStep}
use Rattle.ra_automaton.proofs.Apart.{cases_same}
use Rattle.ra_world.proofs.Protocol.{IsNode}
use Rattle.ra_world.proofs.Tables.{is_of, is_of_both, is_of_here, of, contains_of, of_contains, gains_end, of_gained, of_kept, takes_out}

abbrev pub waiting_of : Use → List Entry
waiting_of Nobody = []
waiting_of (WaitsBy e) = e ∷ []
waiting_of (HoldsBy e) = []

abbrev pub granted_of : Use → List Entry
granted_of Nobody = []
granted_of (WaitsBy e) = []
granted_of (HoldsBy e) = e ∷ []

pub is_waiting : (w : Use) (x : Entry) → Contains (waiting_of w) x → w ≡ WaitsBy x
is_waiting Nobody x at = absurd (omega (arith, at.1))
is_waiting (WaitsBy e) x (zero, lt, is) = ap (λ (y : Entry). WaitsBy y) is
is_waiting (WaitsBy e) x (suc k, lt, is) = absurd (omega (arith, lt))
is_waiting (HoldsBy e) x at = absurd (omega (arith, at.1))

pub is_granted : (w : Use) (x : Entry) → Contains (granted_of w) x → w ≡ HoldsBy x
is_granted Nobody x at = absurd (omega (arith, at.1))
is_granted (WaitsBy e) x at = absurd (omega (arith, at.1))
is_granted (HoldsBy e) x (zero, lt, is) = ap (λ (y : Entry). HoldsBy y) is
is_granted (HoldsBy e) x (suc k, lt, is) = absurd (omega (arith, lt))

-- the table has what the nodes' uses of the names say, and each node has met the numbers that were granted
pub record Tabled (n : ℕ) (u : ℕ → List ℕ → Use) (h : ℕ → List ℕ → ℕ) (t : LockTable) : Type 0 where
  pub waiting : (i : ℕ) (r : List ℕ) → IsNode n i → of i r t.waiting ≡ waiting_of (u i r)
  pub holding : (i : ℕ) (r : List ℕ) → IsNode n i → of i r t.holding ≡ granted_of (u i r)
  pub waiting_known : (e : Entry) → Contains t.waiting e → IsNode n e.stamp.node
  pub holding_known : (e : Entry) → Contains t.holding e → IsNode n e.stamp.node
  pub reached : (e : Entry) → Contains t.granted e → (j : ℕ) → IsNode n j → e.stamp.seq ≤ h j e.name

-- one node's use of one name changes
pub record Alters (u u' : ℕ → List ℕ → Use) (p : ℕ) (r : List ℕ) (x : Use) : Type 0 where
  pub here : u' p r ≡ x
  pub there : (i : ℕ) (q : List ℕ) → (i ≡ p → q ≡ r → ⊥) → u' i q ≡ u i q

one : (e x : Entry) → Contains (e ∷ []) x → e ≡ x
one e x (zero, lt, is) = is
one e x (suc k, lt, is) = absurd (omega (arith, lt))

placed : (es : List Entry) (k : ℕ) (d : Entry) → k < length es → Contains es (get_or es k d)
placed es k d lt = (k, lt, get_or_default es k (get_or es k d) d lt)

-- what is left was in the list before
still : (es left : List Entry) {e : Entry} → Loses es e left → (x : Entry) → Contains left x → Contains es x
still es left {e} loses x at =
    let split = subst (λ (ys : List Entry). Contains ys x) loses.2 at in
    subst (λ (ys : List Entry). Contains ys x) (sym loses.3)
    (elim (Contains-append_cases loses.0 loses.1 x split) [
      | inl sooner ↦ Contains-append_left loses.0 (e ∷ loses.1) x sooner
      | inr later ↦ Contains-append_right loses.0 (e ∷ loses.1) x (suc later.0, omega (arith, later.1), later.2)
    ])

not_both : {e : Entry} (x : Entry) → WaitsBy e ≡ HoldsBy x → ⊥
not_both x k = cc

-- the request of a use that has one
abbrev pub entry_in_use : Entry → Use → Entry
entry_in_use d Nobody = d
entry_in_use d (WaitsBy e) = e
entry_in_use d (HoldsBy e) = e

never_earlier : (e : Entry) → IsEarlier e.stamp e.stamp → ⊥
never_earlier e earlier = elim earlier [ inl below ↦ omega (arith, below) | inr same ↦ omega (arith, same.1) ]

not_itself : {e : Entry} (x : Entry) → WaitsBy e ≡ WaitsBy x → IsEarlier x.stamp e.stamp → ⊥
not_itself {e} x k earlier = never_earlier e (subst (λ (y : Entry). IsEarlier y.stamp e.stamp) (sym (ap (entry_in_use e) k)) earlier)

module _ (n : ℕ) (u u' : ℕ → List ℕ → Use) (h h' : ℕ → List ℕ → ℕ) (t : LockTable) (tabled : Tabled n u h t) (p : ℕ) (r : List ℕ) (within : IsNode n p) (higher : (i : ℕ) (q : List ℕ) → h i q ≤ h' i q) where
  waits_at : (x : Entry) → Contains t.waiting x → u x.stamp.node x.name ≡ WaitsBy x
  waits_at x at =
      is_waiting (u x.stamp.node x.name) x
      (subst (λ (es : List Entry). Contains es x) (tabled.waiting x.stamp.node x.name (tabled.waiting_known x at)) (contains_of t.waiting x at))

  holds_at : (x : Entry) → Contains t.holding x → u x.stamp.node x.name ≡ HoldsBy x
  holds_at x at =
      is_granted (u x.stamp.node x.name) x
      (subst (λ (es : List Entry). Contains es x) (tabled.holding x.stamp.node x.name (tabled.holding_known x at)) (contains_of t.holding x at))

  reached_more : (e : Entry) → Contains t.granted e → (j : ℕ) → IsNode n j → e.stamp.seq ≤ h' j e.name
  reached_more e at j j_at = omega (arith, tabled.reached e at j j_at, higher j e.name)

  -- nothing changes in the table
  pub unmarked : ((i : ℕ) (q : List ℕ) → u' i q ≡ u i q) → Tabled n u' h' t
  unmarked same =
      record {
        waiting = λ i q at. tabled.waiting i q at ∙ ap waiting_of (sym (same i q));
        holding = λ i q at. tabled.holding i q at ∙ ap granted_of (sym (same i q));
        waiting_known = tabled.waiting_known;
        holding_known = tabled.holding_known;
        reached = reached_more;
      }

  module _ (e : Entry) (node_is : e.stamp.node ≡ p) (name_is : e.name ≡ r) where
    -- whose entries are meant by a test
    at_e : (i : ℕ) (q : List ℕ) → is_of i q e ≡ true → (i ≡ p) × (q ≡ r)
    at_e i q b = let both = is_of_both i q e b in (sym both.0 ∙ node_is, sym both.1 ∙ name_is)

    off_e : (i : ℕ) (q : List ℕ) → is_of i q e ≡ false → i ≡ p → q ≡ r → ⊥
    off_e i q b is_p is_r = no (sym b ∙ is_of_here i q e (node_is ∙ sym is_p) (name_is ∙ sym is_r))
      where
        no : false ≡ true → ⊥
        no k = cc

    -- a list of entries that gains this one at its end
    gained : (es : List Entry) (f : Use → List Entry) (x : Use) → Alters u u' p r x → ((i : ℕ) (q : List ℕ) → IsNode n i → of i q es ≡ f (u i q)) → f (u p r) ≡ [] → f x ≡ e ∷ []
        → (i : ℕ) (q : List ℕ) → IsNode n i → of i q (es ++ e ∷ []) ≡ f (u' i q)
    gained es f x alters has before after i q at =
        elim (is_of i q e) as (λ b. is_of i q e ≡ b → of i q (es ++ e ∷ []) ≡ f (u' i q)) [
          | true ↦ λ b.
              let is = at_e i q b in
              let moved : u i q ≡ u p r = (λ k. u (is.0 k) (is.1 k)) in
              let moved' : u' i q ≡ x = (λ k. u' (is.0 k) (is.1 k)) ∙ alters.here in
              of_gained i q es e b ∙ ap (λ (ys : List Entry). ys ++ e ∷ []) (has i q at ∙ ap f moved ∙ before) ∙ sym (ap f moved' ∙ after)
          | false ↦ λ b. of_kept i q es e b ∙ has i q at ∙ ap f (sym (alters.there i q (off_e i q b)))
        ] refl

    -- one that stays
    stays : (es : List Entry) (f : Use → List Entry) (x : Use) → Alters u u' p r x → ((i : ℕ) (q : List ℕ) → IsNode n i → of i q es ≡ f (u i q)) → f (u p r) ≡ f x → (i : ℕ) (q : List ℕ) → IsNode n i → of i q es ≡ f (u' i q)
    stays es f x alters has same i q at =
        elim (is_of i q e) as (λ b. is_of i q e ≡ b → of i q es ≡ f (u' i q)) [
          | true ↦ λ b.
              let is = at_e i q b in
              let moved : u i q ≡ u p r = (λ k. u (is.0 k) (is.1 k)) in
              let moved' : u' i q ≡ x = (λ k. u' (is.0 k) (is.1 k)) ∙ alters.here in
              has i q at ∙ ap f moved ∙ same ∙ sym (ap f moved')
          | false ↦ λ b. has i q at ∙ ap f (sym (alters.there i q (off_e i q b)))
        ] refl

    -- one that loses it
    lost : (es left : List Entry) (f : Use → List Entry) (x : Use) → Alters u u' p r x → ((i : ℕ) (q : List ℕ) → IsNode n i → of i q es ≡ f (u i q)) → f x ≡ []
        → of e.stamp.node e.name left ≡ [] → ((i : ℕ) (q : List ℕ) → is_of i q e ≡ false → of i q left ≡ of i q es) → (i : ℕ) (q : List ℕ) → IsNode n i → of i q left ≡ f (u' i q)
    lost es left f x alters has after none others i q at =
        elim (is_of i q e) as (λ b. is_of i q e ≡ b → of i q left ≡ f (u' i q)) [
          | true ↦ λ b.
              let is = at_e i q b in
              let both = is_of_both i q e b in
              let moved' : u' i q ≡ x = (λ k. u' (is.0 k) (is.1 k)) ∙ alters.here in
              (λ k. of (sym both.0 k) (sym both.1 k) left) ∙ none ∙ sym (ap f moved' ∙ after)
          | false ↦ λ b. others i q b ∙ has i q at ∙ ap f (sym (alters.there i q (off_e i q b)))
        ] refl

    known_more : (es : List Entry) → ((x : Entry) → Contains es x → IsNode n x.stamp.node) → (x : Entry) → Contains (es ++ e ∷ []) x → IsNode n x.stamp.node
    known_more es known x at = elim (Contains-append_cases es (e ∷ []) x at) [
      | inl before ↦ known x before
      | inr last ↦ subst (λ (y : Entry). IsNode n y.stamp.node) (one e x last) (subst (λ (k : ℕ). IsNode n k) (sym node_is) within)
    ]

    -- a request is made
    pub requested : u p r ≡ Nobody → Alters u u' p r (WaitsBy e) → h p r < e.stamp.seq → (new : LockTable) × TableStep t (Requested e) new × Tabled n u' h' new
    requested nobody alters above = (
      record t { waiting = t.waiting ++ e ∷ [] },
      (
        record {
          not_waiting = λ k d lt name node.
              let x = get_or t.waiting k d in
              absurd (nobody_waits x (sym (same_use x name node) ∙ waits_at x (placed t.waiting k d lt)));
          not_holding = λ k d lt name node.
              let x = get_or t.holding k d in
              absurd (nobody_holds x (sym (same_use x name node) ∙ holds_at x (placed t.holding k d lt)));
          above = λ k d lt name.
              let x = get_or t.granted k d in
              let met = tabled.reached x (placed t.granted k d lt) p within in
              omega (arith, subst (λ (q : List ℕ). x.stamp.seq ≤ h p q) (name ∙ name_is) met, above);
        },
        gains_end t.waiting e,
        refl,
        refl,
      ),
      record {
        waiting = gained t.waiting waiting_of (WaitsBy e) alters tabled.waiting (ap waiting_of nobody) refl;
        holding = stays t.holding granted_of (WaitsBy e) alters tabled.holding (ap granted_of nobody);
        waiting_known = known_more t.waiting tabled.waiting_known;
        holding_known = tabled.holding_known;
        reached = reached_more;
      },
    )
      where
        same_use : (x : Entry) → x.name ≡ e.name → x.stamp.node ≡ e.stamp.node → u x.stamp.node x.name ≡ Nobody
        same_use x name node = (λ k. u ((node ∙ node_is) k) ((name ∙ name_is) k)) ∙ nobody

        nobody_waits : (x : Entry) → Nobody ≡ WaitsBy x → ⊥
        nobody_waits x k = cc

        nobody_holds : (x : Entry) → Nobody ≡ HoldsBy x → ⊥
        nobody_holds x k = cc

    -- it is granted
    pub granted : u p r ≡ WaitsBy e → Alters u u' p r (HoldsBy e) → ((j : ℕ) → IsNode n j → e.stamp.seq ≤ h' j r)
        → ((j : ℕ) (x : Entry) → IsNode n j → j ≢ p → u j r ≡ HoldsBy x → Conflict x.mode e.mode → ⊥)
        → ((j : ℕ) (x : Entry) → IsNode n j → j ≢ p → u j r ≡ WaitsBy x → Conflict x.mode e.mode → IsEarlier x.stamp e.stamp → ⊥)
        → (new : LockTable) × TableStep t (Entered e) new × Tabled n u' h' new
    granted waits alters met free first =
        let only : of e.stamp.node e.name t.waiting ≡ e ∷ [] = (λ k. of (node_is k) (name_is k) t.waiting) ∙ tabled.waiting p r within ∙ ap waiting_of waits in
        let there : Contains t.waiting e = of_contains e.stamp.node e.name t.waiting e (subst (λ (es : List Entry). Contains es e) (sym only) (0, omega arith, refl)) in
        let out = takes_out t.waiting e there in (
          record { waiting = out.left; holding = t.holding ++ e ∷ []; granted = t.granted ++ e ∷ [] },
          (
            record {
              waits = there;
              not_held = λ k d lt excludes. let x = get_or t.holding k d in nobody_else x (holds_at x (placed t.holding k d lt)) (tabled.holding_known x (placed t.holding k d lt)) excludes;
              no_earlier = λ k d lt excludes earlier.
                  let x = get_or t.waiting k d in nobody_before x (waits_at x (placed t.waiting k d lt)) (tabled.waiting_known x (placed t.waiting k d lt)) excludes earlier;
            },
            out.loses,
            gains_end t.holding e,
            gains_end t.granted e,
          ),
          record {
            waiting = lost t.waiting out.left waiting_of (HoldsBy e) alters tabled.waiting refl (out.only only) out.others;
            holding = gained t.holding granted_of (HoldsBy e) alters tabled.holding (ap granted_of waits) refl;
            waiting_known = λ x at. tabled.waiting_known x (still t.waiting out.left out.loses x at);
            holding_known = known_more t.holding tabled.holding_known;
            reached = λ x at j j_at. elim (Contains-append_cases t.granted (e ∷ []) x at) [
              | inl before ↦ reached_more x before j j_at
              | inr last ↦ subst (λ (y : Entry). y.stamp.seq ≤ h' j y.name) (one e x last) (subst (λ (q : List ℕ). e.stamp.seq ≤ h' j q) (sym name_is) (met j j_at))
            ];
          },
        )
      where
        nobody_else : (x : Entry) → u x.stamp.node x.name ≡ HoldsBy x → IsNode n x.stamp.node → Excludes x e → ⊥
        nobody_else x holds known excludes =
            let named : x.name ≡ r = excludes.0 ∙ name_is in
            let holds' : u x.stamp.node r ≡ HoldsBy x = ap (u x.stamp.node) (sym named) ∙ holds in
            elim (cases_same x.stamp.node p) [
              | inl same ↦ not_both x (sym waits ∙ ap (λ (k : ℕ). u k r) (sym same) ∙ holds')
              | inr apart ↦ free x.stamp.node x known apart holds' excludes.1
            ]

        nobody_before : (x : Entry) → u x.stamp.node x.name ≡ WaitsBy x → IsNode n x.stamp.node → Excludes x e → IsEarlier x.stamp e.stamp → ⊥
        nobody_before x there known excludes earlier =
            let named : x.name ≡ r = excludes.0 ∙ name_is in
            let there' : u x.stamp.node r ≡ WaitsBy x = ap (u x.stamp.node) (sym named) ∙ there in
            elim (cases_same x.stamp.node p) [
              | inl same ↦ not_itself x (sym waits ∙ ap (λ (k : ℕ). u k r) (sym same) ∙ there') earlier
              | inr apart ↦ first x.stamp.node x known apart there' excludes.1 earlier
            ]

    -- it is given back
    pub given_back : u p r ≡ HoldsBy e → Alters u u' p r Nobody → (new : LockTable) × TableStep t (Left e) new × Tabled n u' h' new
    given_back holds alters =
        let only : of e.stamp.node e.name t.holding ≡ e ∷ [] = (λ k. of (node_is k) (name_is k) t.holding) ∙ tabled.holding p r within ∙ ap granted_of holds in
        let there : Contains t.holding e = of_contains e.stamp.node e.name t.holding e (subst (λ (es : List Entry). Contains es e) (sym only) (0, omega arith, refl)) in
        let out = takes_out t.holding e there in (
          record t { holding = out.left },
          (there, refl, out.loses, refl),
          record {
            waiting = stays t.waiting waiting_of Nobody alters tabled.waiting (ap waiting_of holds);
            holding = lost t.holding out.left granted_of Nobody alters tabled.holding refl (out.only only) out.others;
            waiting_known = tabled.waiting_known;
            holding_known = λ x at. tabled.holding_known x (still t.holding out.left out.loses x at);
            reached = reached_more;
          },
        )

    -- or it is withdrawn while it waits
    pub withdrawn : u p r ≡ WaitsBy e → Alters u u' p r Nobody → (new : LockTable) × TableStep t (Withdrawn e) new × Tabled n u' h' new
    withdrawn waits alters =
        let only : of e.stamp.node e.name t.waiting ≡ e ∷ [] = (λ k. of (node_is k) (name_is k) t.waiting) ∙ tabled.waiting p r within ∙ ap waiting_of waits in
        let there : Contains t.waiting e = of_contains e.stamp.node e.name t.waiting e (subst (λ (es : List Entry). Contains es e) (sym only) (0, omega arith, refl)) in
        let out = takes_out t.waiting e there in (
          record t { waiting = out.left },
          (there, out.loses, refl, refl),
          record {
            waiting = lost t.waiting out.left waiting_of Nobody alters tabled.waiting refl (out.only only) out.others;
            holding = stays t.holding granted_of Nobody alters tabled.holding (ap granted_of waits);
            waiting_known = λ x at. tabled.waiting_known x (still t.waiting out.left out.loses x at);
            holding_known = tabled.holding_known;
            reached = reached_more;
          },
        )
