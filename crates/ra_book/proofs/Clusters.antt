-- Which books are a cluster, one by one.
use Rattle.std.proofs.Common.{◌≡◌, ℕ, ◌+◌, ◌<◌, List, [], ◌∷◌, map, length, get_or, Some, None, sym, ap, ◌∙◌, subst, inl, inr, arith}
use Rattle.std.specs.Prelude.{slice_get}
use Rattle.std.specs.List.{range_with_len}
use Rattle.std.proofs.lemmas.List.{get_or-map, get_or_default, length-map, same_lists}
use Rattle.std.proofs.lemmas.List.FromFn.{length-range_with_len, get_or-range_with_len}
use Rattle.std.proofs.lemmas.Option.{same_Some, none-some, slice_get_within}
use Rattle.std.proofs.lemmas.Bool.{cases_lt}
use Rattle.ra_book.specs.Book.{BookState, IsWhole}
use Rattle.ra_book.specs.Settled.{IsCluster, start_of}
use Rattle.ra_book.proofs.Merging.{number_at}

-- the book belongs to the node with this place, of this many nodes and from this start, and nothing was taken from it
abbrev pub IsMember : BookState → ℕ → ℕ → ℕ → Type 0
IsMember b place count start = (b.me ≡ place + 1) × (b.nodes ≡ count) × (b.start ≡ start) × IsWhole b

-- each of the first `i` books is
abbrev pub AreMembers : List BookState → ℕ → ℕ → Type 0
AreMembers books start i = (k : ℕ) (d : BookState) → k < i → IsMember (get_or books k d) k (length books) start

pub start_is : (books : List BookState) (first : BookState) → slice_get books 0 ≡ Some first → first.start ≡ start_of books
start_is [] first is = absurd (none-some first is)
start_is (b ∷ books) first is = sym (ap (λ (x : BookState). x.start) (same_Some b first is))

-- another one of them does
pub members_more : (books : List BookState) (start i : ℕ) (b : BookState) → AreMembers books start i → b ≡ get_or books i b → IsMember b i (length books) start → i < length books → AreMembers books start (i + 1)
members_more books start i b before at here within k d low =
    elim (cases_lt k i) [
      | inl less ↦ before k d less
      | inr not ↦
          let same : i ≡ k = omega arith in
          subst (λ (j : ℕ). IsMember (get_or books j d) j (length books) start) same
          (subst (λ (x : BookState). IsMember x i (length books) start) (at ∙ get_or_default books i b d within) here)
    ]

pub cluster_of : (books : List BookState) (first : BookState) → slice_get books 0 ≡ Some first → (start : ℕ) → start ≡ first.start → (i : ℕ) → i ≡ length books → AreMembers books start i → IsCluster books
cluster_of books first is start from i all members =
    let member : (k : ℕ) (d : BookState) → k < length books → IsMember (get_or books k d) k (length books) start = λ k d within. members k d (omega (arith, all, within)) in
    record {
      some = slice_get_within books 0 first is;
      numbers =
          same_lists (map (λ b. b.me) books) (range_with_len 1 (length books)) (length-map books (λ (b : BookState). b.me) ∙ sym (length-range_with_len 1 (length books)))
          (λ k d low.
          let within : k < length books = omega (arith, low, length-map books (λ (b : BookState). b.me)) in
          get_or-map (λ (b : BookState). b.me) books k first d within ∙ (member k first within).0 ∙ sym (get_or-range_with_len 1 (length books) k d within ∙ omega arith));
      one_count = λ k d within. (member k d within).1;
      one_start = λ k d within. (member k d within).2 ∙ from ∙ start_is books first is;
      whole = λ k d within. (member k d within).3;
    }

pub member_of : (books : List BookState) (first : BookState) → slice_get books 0 ≡ Some first → IsCluster books → (k : ℕ) (d : BookState) → k < length books → IsMember (get_or books k d) k (length books) first.start
member_of books first is cluster k d within = (number_at books cluster k d within, cluster.one_count k d within, cluster.one_start k d within ∙ sym (start_is books first is), cluster.whole k d within)

-- there is no first book
pub no_cluster : (books : List BookState) → None ≡ slice_get books 0 → IsCluster books → ⊥
no_cluster [] none cluster = absurd (omega (arith, cluster.some))
no_cluster (b ∷ books) none cluster = none-some b none
