-- The place of an entry in a list, found by comparing entries one by one.
use Rattle.std.proofs.Common.{rules, ◌≡◌, ◌↔◌, ◌≢◌, ℕ, ◌<◌, ◌≤◌, ◌+◌, List, Contains, IsTrue, length, get_or, sym, ◌∙◌, subst, arith}
use Rattle.std.specs.Prelude.{Any}
use Rattle.std.proofs.lemmas.List.{get_or_default}
use borrow.Author.Count.{below_none, below_more}
use Rattle.ra_stamp.specs.declared.entry.Entry.{Entry}
use Rattle.ra_stamp.specs.contracts.entry.EntryPartialEq.TheImpl as entries

pub same_entry : (a b : Entry) → IsTrue (entries.ghosts.eq a b) ↔ (a ≡ b)
same_entry a b = search rules

pub is_at : (list : List Entry) (place : ℕ) (x e : Entry) → x ≡ get_or list place x → x ≡ e → get_or list place e ≡ e
is_at list place x e at same = subst (λ (y : Entry). get_or list place y ≡ y) same (sym at)

-- no entry before a place is this one, and that at the place is another
pub none_more : (list : List Entry) (place : ℕ) (x e : Entry) → place < length list → x ≡ get_or list place x → (x ≡ e → ⊥) → ((k : ℕ) → k < place → get_or list k e ≢ e)
    → (k : ℕ) → k < place + 1 → get_or list k e ≢ e
none_more list place x e lt at other below =
    below_more (λ k. get_or list k e ≢ e) place below (λ is. other (at ∙ sym (get_or_default list place e x lt) ∙ is))

pub nowhere : (list : List Entry) (place : ℕ) (e : Entry) → length list ≤ place → ((k : ℕ) → k < place → get_or list k e ≢ e) → Contains list e → ⊥
nowhere list place e end below (k, lt, is) = below k (omega (arith, lt, end)) is

pub none_yet : (list : List Entry) (e : Entry) → (k : ℕ) → k < 0 → get_or list k e ≢ e
none_yet list e = below_none (λ k. get_or list k e ≢ e)

-- ---- An entry of a kind

-- the next entry is not of the kind, either
pub no_more : (P : Entry → Type 0) (xs : List Entry) (i : ℕ) (x : Entry) → i < length xs → x ≡ get_or xs i x → (P x → ⊥)
    → ((k : ℕ) (d : Entry) → k < i → P (get_or xs k d) → ⊥) → (k : ℕ) (d : Entry) → k < i + 1 → P (get_or xs k d) → ⊥
no_more P xs i x within is not before k d less there =
    below_more (λ (j : ℕ). (e : Entry) → P (get_or xs j e) → ⊥) i (λ j lt e. before j e lt) (λ e here. not (subst P (get_or_default xs i e x within ∙ sym is) here)) k less d there

-- none of the entries is
pub not_any : (P : Entry → Type 0) (xs : List Entry) (i : ℕ) → length xs ≤ i → ((k : ℕ) (d : Entry) → k < i → P (get_or xs k d) → ⊥) → Any P xs → ⊥
not_any P xs i end none any = none any.0 any.1 (omega (arith, end, any.2)) (subst P (sym any.3) any.4)
