-- Books in the order of their nodes.
use Rattle.std.proofs.Common.{◌≡◌, ◌≢◌, ℕ, zero, suc, ◌+◌, ◌-◌, ◌<◌, ◌≤◌, List, [], ◌∷◌, ◌++◌, length, map, get_or, inl, inr, refl, sym, ap, subst, ◌∙◌, arith}
use Rattle.std.specs.Prelude.{All}
use Rattle.std.specs.List.{range_with_len}
use Rattle.std.specs.List.Sorted.{IsNonDecreasingBy, IsPermutation}
use Rattle.std.proofs.lemmas.Bool.{cases_eq}
use Rattle.std.proofs.lemmas.List.{length-append, length-map, get_or-map}
use Rattle.std.proofs.lemmas.List.Elements.{All-push, All-weaker}
use Rattle.std.proofs.lemmas.List.FromFn.{length-range_with_len, get_or-range_with_len}
use Rattle.std.proofs.lemmas.List.Quantifiers.{Any-push}
use Rattle.std.proofs.lemmas.List.Sorted.{All-permutation, IsPermutation-sym, length_permutation}
use Rattle.ra_book.specs.Book.{BookState, IsWhole, opening_book}
use Rattle.ra_book.specs.Settled.{IsCluster, start_of}
use Rattle.ra_book_text.specs.Texts.{AreBeside, AreRight, IsBeside, IsRead}
use Rattle.ra_book_text.specs.Verdicts.{IsMissing}
use Rattle.ra_book_text.proofs.Last.{pairs_at_last}
use Rattle.ra_book_text.proofs.OneCame.{pairs_permutation}

abbrev me_of : BookState → ℕ
me_of book = book.me

-- if all books are in order, no node lacks one
in_order : (ordered : List BookState) (nodes node : ℕ) → map (λ book. book.me) ordered ≡ range_with_len 1 nodes → 1 ≤ node → node ≤ nodes
    → All (λ book. book.me ≢ node) ordered → ⊥
in_order ordered nodes zero numbers low high none = absurd (omega (arith, low))
in_order ordered nodes (suc k) numbers low high none =
    let long : length ordered ≡ nodes = sym (length-map ordered me_of) ∙ ap length numbers ∙ length-range_with_len 1 nodes in
    let within : k < length ordered = omega (arith, long, high) in
    let number : (get_or ordered k (opening_book 0 0 0)).me ≡ 1 + k =
    sym (get_or-map me_of ordered k (opening_book 0 0 0) 0 within) ∙ ap (λ (ns : List ℕ). get_or ns k 0) numbers ∙ get_or-range_with_len 1 nodes k 0 (omega (arith, high))
    in
    none k (opening_book 0 0 0) within (number ∙ omega arith)

-- no book of a cluster is missing, in whatever order
pub none_missing : (books ordered : List BookState) → IsPermutation books ordered → IsCluster ordered → IsMissing books → ⊥
none_missing books ordered same cluster (inl (k, book, low, at, other)) =
    let count = All-permutation (λ b. b.nodes ≡ length ordered) ordered books (IsPermutation-sym books ordered same) cluster.one_count k book low in
    let here : book.nodes ≡ length ordered = subst (λ (b : BookState). b.nodes ≡ length ordered) at count in
    other (omega (arith, here, length_permutation books ordered same))
none_missing books ordered same cluster (inr (node, low, none)) =
    let all = All-permutation (λ b. (node ≤ b.nodes) × (b.me ≢ node)) books ordered same none in
    let first = opening_book 0 0 0 in
    let high : node ≤ length ordered = omega (arith, (all 0 first cluster.some).0, cluster.one_count 0 first cluster.some) in
    in_order ordered (length ordered) node cluster.numbers low high
    (All-weaker (λ b. (node ≤ b.nodes) × (b.me ≢ node)) (λ b. b.me ≢ node) (λ b h. h.1) ordered all)

-- ---- Books that are sorted

-- books whose numbers are these are numbered so
numbered : (first : ℕ) (books : List BookState) → ((k : ℕ) (d : BookState) → k < length books → (get_or books k d).me ≡ first + k)
    → map me_of books ≡ range_with_len first (length books)
numbered first [] each = refl
numbered first (b ∷ books) each =
    let head : b.me ≡ first = each 0 b (omega arith) ∙ omega arith in
    let rest = numbered (first + 1) books (λ k d low. each (suc k) d (omega (arith, low)) ∙ omega arith) in
    λ i. head i ∷ rest i

-- The numbers of as many books as there are nodes, from 1 to that many, rise by one.
module _ (nodes : ℕ) (books : List BookState) (rise : (k : ℕ) (d : BookState) → k + 1 < length books → (get_or books k d).me < (get_or books (k + 1) d).me)
    (range : All (λ b. (1 ≤ b.me) × (b.me ≤ nodes)) books)
  where
    from_below : (k : ℕ) (d : BookState) → k < length books → k + 1 ≤ (get_or books k d).me
    from_below zero d low = omega (arith, (range 0 d low).0)
    from_below (suc k) d low =
        let before = from_below k d (omega (arith, low)) in
        let more = rise k d (omega (arith, low)) in
        let next : (get_or books (k + 1) d).me ≡ (get_or books (suc k) d).me = ap (λ (j : ℕ). (get_or books j d).me) (omega arith) in
        omega (arith, before, more, next)

    from_above : (j k : ℕ) (d : BookState) → k + j + 1 ≡ length books → (get_or books k d).me + j ≤ nodes
    from_above zero k d long = omega (arith, (range k d (omega (arith, long))).1)
    from_above (suc j) k d long =
        let after = from_above j (k + 1) d (omega (arith, long)) in
        let more = rise k d (omega (arith, long)) in
        omega (arith, after, more)

    place_is : length books ≡ nodes → (k : ℕ) (d : BookState) → k < length books → (get_or books k d).me ≡ 1 + k
    place_is many k d low =
        let left : k + (length books - (k + 1)) + 1 ≡ length books = omega (arith, low) in
        let above = from_above (length books - (k + 1)) k d left in
        omega (arith, many, low, from_below k d low, above)

    pub all_numbered : length books ≡ nodes → map me_of books ≡ range_with_len 1 (length books)
    all_numbered many = numbered 1 books (place_is many)

-- ---- A cluster

-- all books have the number of nodes and the start of the last
one_count : (earlier : List BookState) (last : BookState) → AreBeside (earlier ++ last ∷ []) → All (λ book. book.nodes ≡ last.nodes) (earlier ++ last ∷ [])
one_count earlier last beside =
    All-push (λ book. book.nodes ≡ last.nodes) earlier last (λ k d low. (pairs_at_last (λ a b. IsBeside b.me b.nodes b.start a) earlier last beside k d low).1) refl

one_start : (earlier : List BookState) (last : BookState) → AreBeside (earlier ++ last ∷ []) → All (λ book. book.start ≡ last.start) (earlier ++ last ∷ [])
one_start earlier last beside =
    All-push (λ book. book.start ≡ last.start) earlier last (λ k d low. (pairs_at_last (λ a b. IsBeside b.me b.nodes b.start a) earlier last beside k d low).2) refl

start_is : (books : List BookState) (start : ℕ) → 1 ≤ length books → All (λ book. book.start ≡ start) books → start_of books ≡ start
start_is [] start some all = absurd (omega (arith, some))
start_is (book ∷ books) start some all = all 0 book (omega arith)

module _ (lines : List (List ℕ)) (earlier : List BookState) (last : BookState) (right : AreRight lines (earlier ++ last ∷ [])) (ordered : List BookState)
    (same : IsPermutation (earlier ++ last ∷ []) ordered) (sorted : IsNonDecreasingBy (λ book. book.me) ordered)
  where
    abbrev books : List BookState
    books = earlier ++ last ∷ []

    -- they are of different nodes, so that the numbers rise
    rises : (k : ℕ) (d : BookState) → k + 1 < length ordered → (get_or ordered k d).me < (get_or ordered (k + 1) d).me
    rises k d low =
        let differ = pairs_permutation (λ a b. a.me ≢ b.me) (λ a b apart is. apart (sym is)) books ordered same (λ i j e below within. (right.beside i j e below within).0) in
        let apart = differ k (k + 1) d (omega arith) low in
        omega (arith, apart, sorted k (k + 1) d (omega arith) low)

    has_number : (k : ℕ) (d : BookState) → k < length books → (1 ≤ (get_or books k d).me) × ((get_or books k d).me ≤ last.nodes)
    has_number k d low =
        let member = (right.each k d low).history.member in
        let count = one_count earlier last right.beside k d low in
        (member.0, omega (arith, member.1, count))

    in_range : All (λ b. (1 ≤ b.me) × (b.me ≤ last.nodes)) ordered
    in_range = All-permutation (λ b. (1 ≤ b.me) × (b.me ≤ last.nodes)) books ordered same has_number

    cluster_of : length books ≡ last.nodes → IsCluster ordered
    cluster_of many =
        let long : length ordered ≡ last.nodes = omega (arith, many, length_permutation books ordered same) in
        let some : 1 ≤ length ordered = omega (arith, length_permutation books ordered same, length-append earlier (last ∷ [])) in
        let starts : All (λ book. book.start ≡ last.start) ordered = All-permutation (λ book. book.start ≡ last.start) books ordered same (one_start earlier last right.beside) in
        let first : start_of ordered ≡ last.start = start_is ordered last.start some starts in
        record {
          some = some;
          numbers = all_numbered last.nodes ordered rises in_range long;
          one_count =
              All-weaker (λ book. book.nodes ≡ last.nodes) (λ book. book.nodes ≡ length ordered) (λ book is. is ∙ sym long) ordered
              (All-permutation (λ book. book.nodes ≡ last.nodes) books ordered same (one_count earlier last right.beside));
          one_start = All-weaker (λ book. book.start ≡ last.start) (λ book. book.start ≡ start_of ordered) (λ book is. is ∙ sym first) ordered starts;
          whole = All-weaker IsRead IsWhole (λ book read. read.whole) ordered (All-permutation IsRead books ordered same right.each);
        }

    -- if they are not a cluster, they are not as many as its nodes
    pub not_cluster : (IsCluster ordered → ⊥) → IsMissing books
    not_cluster not =
        elim (cases_eq last.nodes (length books)) [
          | inl many ↦ absurd (not (cluster_of (sym many)))
          | inr few ↦ inl (Any-push (λ book. book.nodes ≢ length books) earlier last few)
        ]
