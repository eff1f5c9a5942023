-- The lock table of a run: who waits and holds in it are those whose requests wait or are granted at their nodes.
use Rattle.std.proofs.Common.{◌≡◌, ℕ, zero, suc, Bool, true, false, cond, ◌&&◌, List, [], ◌∷◌, ◌++◌, Contains, length, filter, refl, sym, ap, ◌∙◌, subst, arith, nat_eq}
use Rattle.std.specs.Prelude.{bytes_eq}
use Rattle.std.proofs.lemmas.List.{append-nil}
use Rattle.std.proofs.lemmas.List.Elements.{filter-append}
use Rattle.std.proofs.lemmas.Slice.Eq.{bytes_eq-Decides}
use Rattle.std.proofs.lemmas.Bool.{and_parts, eq-eqb, eqb-true}
use Rattle.ra_stamp.specs.declared.entry.Entry.{Entry}
use Rattle.ra_table.specs.Table.{Gains, Loses}
use Rattle.ra_world.proofs.Lists.{tail_of, filter_hit, filter_miss}

-- ---- The entries of one node on one name

abbrev pub is_of : ℕ → List ℕ → Entry → Bool
is_of i r e = nat_eq e.stamp.node i && bytes_eq e.name r

pub is_of_both : (i : ℕ) (r : List ℕ) (e : Entry) → is_of i r e ≡ true → (e.stamp.node ≡ i) × (e.name ≡ r)
is_of_both i r e h =
    let both = and_parts (nat_eq e.stamp.node i) (bytes_eq e.name r) h in
    (eqb-true e.stamp.node i both.0, (bytes_eq-Decides e.name r).0 both.1)

pub is_of_here : (i : ℕ) (r : List ℕ) (e : Entry) → e.stamp.node ≡ i → e.name ≡ r → is_of i r e ≡ true
is_of_here i r e node name = rw (eq-eqb e.stamp.node i node, (bytes_eq-Decides e.name r).1 name) refl

abbrev pub of : ℕ → List ℕ → List Entry → List Entry
of i r es = filter (is_of i r) es

-- an entry of the list is among those of its node and name
pub contains_of : (es : List Entry) (e : Entry) → Contains es e → Contains (of e.stamp.node e.name es) e
contains_of [] e at = absurd (omega (arith, at.1))
contains_of (x ∷ es) e (zero, lt, is) =
    subst (λ (ys : List Entry). Contains ys e) (sym (filter_hit (is_of e.stamp.node e.name) x es (is_of_here e.stamp.node e.name x (ap (λ (y : Entry). y.stamp.node) is) (ap (λ (y : Entry). y.name) is))))
    (0, omega arith, is)
contains_of (x ∷ es) e (suc k, lt, is) =
    let rest = contains_of es e (k, omega (arith, lt), is) in
    elim (is_of e.stamp.node e.name x) as (λ b. Contains (cond b (x ∷ of e.stamp.node e.name es) (of e.stamp.node e.name es)) e) [
      | true ↦ (suc rest.0, omega (arith, rest.1), rest.2)
      | false ↦ rest
    ]

-- and the other way round
contains_later : (x : Entry) (es : List Entry) (e : Entry) → Contains es e → Contains (x ∷ es) e
contains_later x es e at = (suc at.0, omega (arith, at.1), at.2)

either : (x : Entry) (ys es : List Entry) (e : Entry) → (Contains ys e → Contains es e) → Contains (x ∷ ys) e → Contains (x ∷ es) e
either x ys es e more (zero, lt, is) = (0, omega arith, is)
either x ys es e more (suc k, lt, is) = contains_later x es e (more (k, omega (arith, lt), is))

pub of_contains : (i : ℕ) (r : List ℕ) (es : List Entry) (e : Entry) → Contains (of i r es) e → Contains es e
of_contains i r [] e at = absurd (omega (arith, at.1))
of_contains i r (x ∷ es) e at =
    elim (is_of i r x) as (λ b. Contains (cond b (x ∷ of i r es) (of i r es)) e → Contains (x ∷ es) e) [
      | true ↦ either x (of i r es) es e (of_contains i r es e)
      | false ↦ λ k. contains_later x es e (of_contains i r es e k)
    ] at

-- ---- Lists that gain or lose an entry

pub gains_end : (es : List Entry) (e : Entry) → Gains es e (es ++ e ∷ [])
gains_end es e = (es, [], sym (append-nil es), refl)

pub of_gained : (i : ℕ) (r : List ℕ) (es : List Entry) (e : Entry) → is_of i r e ≡ true → of i r (es ++ e ∷ []) ≡ of i r es ++ e ∷ []
of_gained i r es e h = filter-append (is_of i r) es (e ∷ []) ∙ ap (λ (ys : List Entry). of i r es ++ ys) (filter_hit (is_of i r) e [] h)

pub of_kept : (i : ℕ) (r : List ℕ) (es : List Entry) (e : Entry) → is_of i r e ≡ false → of i r (es ++ e ∷ []) ≡ of i r es
of_kept i r es e h = filter-append (is_of i r) es (e ∷ []) ∙ ap (λ (ys : List Entry). of i r es ++ ys) (filter_miss (is_of i r) e [] h) ∙ append-nil (of i r es)

-- an entry of the list can be taken out, and no other one of its node and name is left if it was the only one
pub record TakesOut (es : List Entry) (e : Entry) : Type 0 where
  pub left : List Entry
  pub loses : Loses es e left
  pub only : of e.stamp.node e.name es ≡ e ∷ [] → of e.stamp.node e.name left ≡ []
  pub others : (i : ℕ) (r : List ℕ) → is_of i r e ≡ false → of i r left ≡ of i r es

pub takes_out : (es : List Entry) (e : Entry) → Contains es e → TakesOut es e
takes_out [] e at = absurd (omega (arith, at.1))
takes_out (x ∷ es) e (zero, lt, is) =
    record {
      left = es;
      loses = ([], es, refl, ap (λ (y : Entry). y ∷ es) is);
      only = λ one. tail_of (sym (filter_hit (is_of e.stamp.node e.name) x es (ap (is_of e.stamp.node e.name) is ∙ is_of_here e.stamp.node e.name e refl refl)) ∙ one);
      others = λ i r no. sym (filter_miss (is_of i r) x es (ap (is_of i r) is ∙ no));
    }
takes_out (x ∷ es) e (suc k, lt, is) =
    let rest = takes_out es e (k, omega (arith, lt), is) in
    record {
      left = x ∷ rest.left;
      loses = (x ∷ rest.loses.0, rest.loses.1, ap (λ (ys : List Entry). x ∷ ys) rest.loses.2, ap (λ (ys : List Entry). x ∷ ys) rest.loses.3);
      only = λ one. only_rest (is_of e.stamp.node e.name x) rest.left rest.only one (contains_of es e (k, omega (arith, lt), is));
      others = λ i r no. ap (λ (ys : List Entry). cond (is_of i r x) (x ∷ ys) ys) (rest.others i r no);
    }
  where
    only_rest : (b : Bool) (left : List Entry) → (of e.stamp.node e.name es ≡ e ∷ [] → of e.stamp.node e.name left ≡ []) → cond b (x ∷ of e.stamp.node e.name es) (of e.stamp.node e.name es) ≡ e ∷ []
        → Contains (of e.stamp.node e.name es) e → cond b (x ∷ of e.stamp.node e.name left) (of e.stamp.node e.name left) ≡ []
    only_rest true left only one at = absurd (omega (arith, at.1, ap length one))
    only_rest false left only one at = only one
