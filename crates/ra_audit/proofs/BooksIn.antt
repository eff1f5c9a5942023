-- All of the history of each book is in the run, or not.
use Rattle.std.proofs.Common.{◌≡◌, ◌⊎◌, ℕ, ◌+◌, ◌<◌, ◌≤◌, List, length, get_or, refl, sym, ap, ◌∙◌, subst, inl, inr, arith}
use Rattle.std.specs.Prelude.{slice_get}
use Rattle.std.proofs.lemmas.Bool.{cases_lt}
use Rattle.std.proofs.lemmas.Option.{same_Some, slice_get_read, slice_get_within}
use Rattle.ra_book.specs.Book.{BookState}
use Rattle.ra_audit.specs.Audit.{ProgressState, IsAllIn, IsAllInAt, AreAllIn, IsFirstNotAllIn}

-- one place more
pub all_in_more : (nodes : List ProgressState) (books : List BookState) (place : ℕ) (x : ProgressState) (y : BookState) → place < length nodes → place < length books
    → x ≡ get_or nodes place x → y ≡ get_or books place y → IsAllIn x y → ((i : ℕ) → i < place → IsAllInAt nodes books i) → (i : ℕ) → i < place + 1 → IsAllInAt nodes books i
all_in_more nodes books place x y low low' at at' is so_far i below p b np nb = of (cases_lt i place)
  where
    of : (i < place) ⊎ (place ≤ i) → IsAllIn p b
    of (inl less) = so_far i less p b np nb
    of (inr more) =
        let here : place ≡ i = omega (arith, below, more) in
        let xp : x ≡ p = same_Some x p (sym (slice_get_read nodes (length nodes) place x refl low at) ∙ ap (slice_get nodes) here ∙ np) in
        let yb : y ≡ b = same_Some y b (sym (slice_get_read books (length books) place y refl low' at') ∙ ap (slice_get books) here ∙ nb) in
        subst (λ (q : ProgressState). IsAllIn q b) xp (subst (λ (c : BookState). IsAllIn x c) yb is)

-- all places
pub all_in : (nodes : List ProgressState) (books : List BookState) (place : ℕ) → length nodes ≤ place → length books ≡ length nodes
    → ((i : ℕ) → i < place → IsAllInAt nodes books i) → AreAllIn nodes books
all_in nodes books place past count so_far = record {
  count = count;
  all = λ i p b np nb. so_far i (omega (arith, slice_get_within nodes i p np, past)) p b np nb;
}

-- the first place at which not everything is in the run
pub first_not_all_in : (nodes : List ProgressState) (books : List BookState) (place : ℕ) (x : ProgressState) (y : BookState) (node : ℕ) → place < length nodes → place < length books
    → x ≡ get_or nodes place x → y ≡ get_or books place y → node ≡ x.node → (IsAllIn x y → ⊥)
    → ((i : ℕ) → i < place → IsAllInAt nodes books i) → IsFirstNotAllIn nodes books node
first_not_all_in nodes books place x y node low low' at at' number not_all so_far = record {
  place = place;
  p = x;
  book = y;
  at = slice_get_read nodes (length nodes) place x refl low at;
  book_at = slice_get_read books (length books) place y refl low' at';
  number = number;
  not_all = not_all;
  before = so_far;
}
