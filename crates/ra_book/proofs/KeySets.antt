-- Sets that have the keys of a list.
use Rattle.std.proofs.Common.{◌≡◌, ◌≢◌, ℕ, ◌<◌, length, map, get_or, arith, Bool, true, false, cond, not, List, [], ◌∷◌, ◌++◌, BTreeSet, Ordering, refl, sym, ap, ◌∙◌, subst, inl, inr}
use Rattle.std.specs.Prelude.{AllPairs, Contains, IsTrue, MatchBool}
use Rattle.std.specs.BTreeSet as sorted
use Rattle.std.specs.Cmp.{IsTotalOrder}
use Rattle.std.specs.Ordering.{eq_by_cmp}
use Rattle.std.proofs.lemmas.Bool.{false≢true}
use Rattle.std.proofs.lemmas.List.Elements.{Contains-push, Contains-push_cases, Contains-append_left}
use Rattle.std.proofs.lemmas.Map.Lookups.{CmpEqualImpliesEq}
use Rattle.std.proofs.lemmas.Map.Views.{btree_set_contains_iff, tells_apart}
use Rattle.std.proofs.lemmas.List.{map-append, length-map, length-append, get_or-map, get_or_append_left, get_or_push, length_push}
use Rattle.std.proofs.lemmas.List.Quantifiers.{all_pairs_push}
use Rattle.ra_book.specs.Keys.{HasKeys}
use Rattle.ra_book.specs.Settled.{Repeats}

pub no_keys : {K : Type 0} (set : BTreeSet K) → set.keys ≡ [] → HasKeys set []
no_keys {K} set none key = (subst (λ (ks : List K). Contains ks key) none, subst (λ (ks : List K). Contains ks key) (sym none))

module _ {K : Type 0} {R : K → K → Ordering} (total : IsTotalOrder R) (exact : CmpEqualImpliesEq R) where
  -- another key
  pub keys_more : (old new : BTreeSet K) (key : K) (list : List K) → HasKeys old list → sorted.Updates R old new key true → HasKeys new (list ++ key ∷ [])
  keys_more old new key list has updated q = (
    λ is. by_cases (eq_by_cmp R key q) refl ((btree_set_contains_iff total exact new q).1 is),
    λ is. elim (Contains-push_cases list key q is) [
      | inl before ↦
          let was = (btree_set_contains_iff total exact old q).1 ((has q).1 before) in
          (btree_set_contains_iff total exact new q).0 (updated.0 q ∙ ap (cond (eq_by_cmp R key q) true) was ∙ both (eq_by_cmp R key q))
      | inr same ↦ subst (λ (k : K). Contains new.keys k) same ((btree_set_contains_iff total exact new key).0 updated.1)
    ],
  )
    where
      both : (b : Bool) → cond b true true ≡ true
      both true = refl
      both false = refl

      by_cases : (b : Bool) → eq_by_cmp R key q ≡ b → IsTrue (sorted.contains R new q) → Contains (list ++ key ∷ []) q
      by_cases true e is = subst (λ (k : K). Contains (list ++ key ∷ []) k) (tells_apart exact key q e) (Contains-push list key)
      by_cases false e is =
          let was = sym (updated.0 q ∙ ap (λ b. cond b true (sorted.contains R old q)) e) ∙ is in
          Contains-append_left list (key ∷ []) q ((has q).0 ((btree_set_contains_iff total exact old q).0 was))

  -- what the set says of a key
  pub said : (set : BTreeSet K) (list : List K) (key : K) → HasKeys set list → sorted.contains R set key ≡ true → Contains list key
  said set list key has is = (has key).0 ((btree_set_contains_iff total exact set key).0 is)

  pub denied : (set : BTreeSet K) (list : List K) (key : K) → HasKeys set list → sorted.contains R set key ≡ false → Contains list key → ⊥
  denied set list key has is_not is = false≢true (sym is_not ∙ (btree_set_contains_iff total exact set key).1 ((has key).1 is))

-- what a put of a key answers
pub when_new : (b added : Bool) → added ≡ not b → added ≡ true → b ≡ false
when_new true added e is = absurd (false≢true (sym e ∙ is))
when_new false added e is = refl

pub when_old : (b added : Bool) → added ≡ not b → added ≡ false → b ≡ true
when_old true added e is = refl
when_old false added e is = absurd (false≢true (sym is ∙ e))

pub at_true : (b : Bool) (P Q : Type 0) → b ≡ true → MatchBool b P Q → P
at_true true P Q e is = is
at_true false P Q e is = absurd (false≢true e)

pub at_false : (b : Bool) (P Q : Type 0) → b ≡ false → MatchBool b P Q → Q
at_false true P Q e is = absurd (false≢true (sym e))
at_false false P Q e is = is

-- ---- Sets of the keys of values without equal ones

abbrev pub HasAll : {K X : Type 0} → (X → K) → BTreeSet K → List X → Type 0
HasAll key set xs = HasKeys set (map key xs) × AllPairs (λ a b. a ≢ b) xs

pub none_yet : {K X : Type 0} (key : X → K) (set : BTreeSet K) → set.keys ≡ [] → HasAll key set []
none_yet key set none = (no_keys set none, λ i j d low within. absurd (omega (arith, within)))

-- what repeats goes on doing so
pub repeats_more : {X : Type 0} (xs ys : List X) → Repeats xs → Repeats (xs ++ ys)
repeats_more xs ys r =
    record {
      first = r.first;
      second = r.second;
      item = r.item;
      in_order = r.in_order;
      within = omega (arith, r.within, length-append xs ys);
      first_is = get_or_append_left xs ys r.item r.first (omega (arith, r.in_order, r.within)) ∙ r.first_is;
      second_is = get_or_append_left xs ys r.item r.second r.within ∙ r.second_is;
    }

module _ {K X : Type 0} {R : K → K → Ordering} (total : IsTotalOrder R) (exact : CmpEqualImpliesEq R) (key : X → K) (one : (a b : X) → key a ≡ key b → a ≡ b) where
  -- a key in the list of all keys is the key of one of the values
  at_key : (xs : List X) (x : X) → Contains (map key xs) (key x) → (k : ℕ) × (k < length xs) × ((d : X) → get_or xs k d ≡ x)
  at_key xs x is =
      let within : is.0 < length xs = omega (arith, is.1, length-map xs key) in
      (is.0, within, λ d. one (get_or xs is.0 d) x (sym (get_or-map key xs is.0 d (key x) within) ∙ is.2))

  pub of_keys : (xs : List X) (x : X) → Contains (map key xs) (key x) → Contains xs x
  of_keys xs x is = let found = at_key xs x is in (found.0, found.1, found.2 x)

  pub to_keys : (xs : List X) (x : X) → Contains xs x → Contains (map key xs) (key x)
  to_keys xs x is = (is.0, omega (arith, is.1, length-map xs key), get_or-map key xs is.0 x (key x) is.1 ∙ ap key is.2)

  pub one_more : (old new : BTreeSet K) (xs : List X) (x : X) → HasAll key old xs → sorted.contains R old (key x) ≡ false → sorted.Updates R old new (key x) true → HasAll key new (xs ++ x ∷ [])
  one_more old new xs x has is_new updated = (
    subst (HasKeys new) (sym (map-append key xs (x ∷ []))) (keys_more total exact old new (key x) (map key xs) has.0 updated),
    all_pairs_push (λ a b. a ≢ b) xs x has.1
        (λ k d low same. denied total exact old (map key xs) (key x) has.0 is_new (k, omega (arith, low, length-map xs key), get_or-map key xs k d (key x) low ∙ ap key same)),
  )

  pub again : (set : BTreeSet K) (xs : List X) (x : X) → HasAll key set xs → sorted.contains R set (key x) ≡ true → Repeats (xs ++ x ∷ [])
  again set xs x has is =
      let found = at_key xs x (said total exact set (map key xs) (key x) has.0 is) in
      record {
        first = found.0;
        second = length xs;
        item = x;
        in_order = found.1;
        within = omega (arith, length_push xs x);
        first_is = get_or_append_left xs (x ∷ []) x found.0 found.1 ∙ found.2 x;
        second_is = get_or_push xs x x (length xs) refl;
      }
