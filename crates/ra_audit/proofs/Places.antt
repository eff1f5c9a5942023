-- The place of an element in a list, found by comparing elements one by one.
use Rattle.std.proofs.Common.{◌≡◌, ◌≢◌, ℕ, ◌<◌, ◌≤◌, ◌+◌, List, Contains, length, get_or, sym, ◌∙◌, subst, arith}
use Rattle.std.proofs.lemmas.List.{get_or_default}
use borrow.Author.Count.{below_none, below_more}

module _ {X : Type 0} where
  pub is_at : (list : List X) (place : ℕ) (x e : X) → x ≡ get_or list place x → x ≡ e → get_or list place e ≡ e
  is_at list place x e at same = subst (λ (y : X). get_or list place y ≡ y) same (sym at)

  -- no element before a place is this one, and that at the place is another
  pub none_more : (list : List X) (place : ℕ) (x e : X) → place < length list → x ≡ get_or list place x → (x ≡ e → ⊥) → ((k : ℕ) → k < place → get_or list k e ≢ e)
      → (k : ℕ) → k < place + 1 → get_or list k e ≢ e
  none_more list place x e lt at other below =
      below_more (λ k. get_or list k e ≢ e) place below (λ is. other (at ∙ sym (get_or_default list place e x lt) ∙ is))

  pub nowhere : (list : List X) (place : ℕ) (e : X) → length list ≤ place → ((k : ℕ) → k < place → get_or list k e ≢ e) → Contains list e → ⊥
  nowhere list place e end below (k, lt, is) = below k (omega (arith, lt, end)) is

  pub none_yet : (list : List X) (e : X) → (k : ℕ) → k < 0 → get_or list k e ≢ e
  none_yet list e = below_none (λ k. get_or list k e ≢ e)
