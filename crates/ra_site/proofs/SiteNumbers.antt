-- The sites of a cluster are in the order of their numbers, and so are the books that they give when they are closed.
use Rattle.std.proofs.Common.{◌≡◌, ℕ, Bool, zero, suc, ◌+◌, ◌<◌, ◌≤◌, List, [], ◌∷◌, ◌++◌, map, length, get_or, Bor, Option, Some, None, is_some, IfSome, ltb, refl, sym, ap, ◌∙◌, false, arith}
use Rattle.std.specs.Prelude.{All}
use Rattle.std.specs.List.{range_with_len}
use Rattle.std.proofs.Math.Seq.{get_or-append_seam}
use Rattle.std.proofs.lemmas.List.{nil_from_length, length-append, map-append, length-map, get_or-map, append-nil, append_assoc, same_lists}
use Rattle.std.proofs.lemmas.List.Elements.{All-append, All-nil, All-cons}
use Rattle.std.proofs.lemmas.List.FromFn.{length-range_with_len, get_or-range_with_len}
use borrow.Author.Tests.{ltb-true}
use Rattle.ra_book.specs.Book.{BookState, IsWhole, HasHistory}
use Rattle.ra_book.specs.Settled.{IsCluster, start_of}
use Rattle.ra_site.specs.Cluster.{ClusterState}
use Rattle.ra_site.specs.Sites.{SiteState, site_at, sites_to}

abbrev state_of : ℕ → Bool → ℕ → ClusterState
state_of start audited nodes = record { nodes = nodes; start = start; audited = audited }

-- a cluster of this many sites is one of that many nodes
pub made_of : (n start : ℕ) (audited : Bool) (sites : ℕ) → sites ≡ n
    → ◌≡◌ {A = ClusterState} (record { nodes = sites; start = start; audited = audited }) (record { nodes = n; start = start; audited = audited })
made_of n start audited sites is = ap (state_of start audited) is

-- the numbers of the sites' nodes
abbrev pub nodes_at : List SiteState → List ℕ
nodes_at sites = map (λ (site : SiteState). site.node) sites

-- there are as many sites as numbers
pub count_of : (n : ℕ) (audited : Bool) (sites : List SiteState) → sites ≡ sites_to n audited → length sites ≡ n
count_of n audited sites are = ap length are ∙ length-map (range_with_len 1 n) (site_at audited) ∙ length-range_with_len 1 n

same_numbers : (audited : Bool) (numbers : List ℕ) → map (λ (site : SiteState). site.node) (map (site_at audited) numbers) ≡ numbers
same_numbers audited [] = refl
same_numbers audited (x ∷ xs) = ap (λ (ys : List ℕ). x ∷ ys) (same_numbers audited xs)

-- they have these numbers
pub numbered : (n : ℕ) (audited : Bool) (sites : List SiteState) → sites ≡ sites_to n audited → nodes_at sites ≡ range_with_len 1 n
numbered n audited sites are = ap (map (λ (site : SiteState). site.node)) are ∙ same_numbers audited (range_with_len 1 n)

-- and in as many there is each node
pub in_order : (n : ℕ) (audited : Bool) (sites : List SiteState) → sites ≡ sites_to n audited → nodes_at sites ≡ range_with_len 1 (length sites)
in_order n audited sites are = numbered n audited sites are ∙ ap (λ (k : ℕ). range_with_len 1 k) (sym (count_of n audited sites are))

-- the site that is found at a place has the number after it
pub found_at : (n node place : ℕ) (audited : Bool) (sites : List SiteState) (found : Option (Bor SiteState)) → sites ≡ sites_to n audited → place + 1 ≡ node
    → is_some found ≡ ltb place (length sites) → IfSome found (λ s. s.now ≡ get_or sites place s.now) → IfSome found (λ s. s.now ≡ site_at audited node)
found_at n node place audited sites None are is within at = tt
found_at n node place audited sites (Some s) are is within at =
    let low : place < n = omega (arith, ltb-true place (length sites) (sym within), count_of n audited sites are) in
    let low' : place < length (range_with_len 1 n) = omega (arith, low, length-range_with_len 1 n) in
    let e : 1 + place ≡ node = omega arith in
    at
    ∙ ap (λ (xs : List SiteState). get_or xs place s.now) are
    ∙ get_or-map (site_at audited) (range_with_len 1 n) place 0 s.now low'
    ∙ ap (site_at audited) (get_or-range_with_len 1 n place 0 low ∙ e)

-- another number comes after the present ones
numbers_from : (a n : ℕ) → range_with_len a (suc n) ≡ range_with_len a n ++ (a + n) ∷ []
numbers_from a zero = let e : a ≡ a + 0 = omega arith in ap (λ (x : ℕ). x ∷ []) e
numbers_from a (suc n) =
    let e : (a + 1) + n ≡ a + suc n = omega arith in
    ap (λ (xs : List ℕ). a ∷ xs) (numbers_from (a + 1) n ∙ ap (λ (x : ℕ). range_with_len (a + 1) n ++ x ∷ []) e)

numbers_more : (n : ℕ) (sites new : List ℕ) → sites ≡ range_with_len 1 n → new ≡ sites ++ (n + 1) ∷ [] → new ≡ range_with_len 1 (n + 1)
numbers_more n sites new are is =
    is
    ∙ ap (λ (xs : List ℕ). xs ++ (n + 1) ∷ []) are
    ∙ (let e : n + 1 ≡ 1 + n = omega arith in ap (λ (x : ℕ). range_with_len 1 n ++ x ∷ []) e)
    ∙ sym (numbers_from 1 n)
    ∙ (let e : suc n ≡ n + 1 = omega arith in ap (λ (k : ℕ). range_with_len 1 k) e)

-- and so does another site
pub sites_more : (n : ℕ) (audited : Bool) (sites new : List SiteState) → sites ≡ sites_to n audited → new ≡ sites ++ site_at audited (n + 1) ∷ [] → new ≡ sites_to (n + 1) audited
sites_more n audited sites new are is =
    is
    ∙ ap (λ (xs : List SiteState). xs ++ site_at audited (n + 1) ∷ []) are
    ∙ sym (map-append (site_at audited) (range_with_len 1 n) ((n + 1) ∷ []))
    ∙ ap (map (site_at audited)) (numbers_more n (range_with_len 1 n) (range_with_len 1 n ++ (n + 1) ∷ []) refl refl)

abbrev pub numbers_of : List BookState → List ℕ
numbers_of books = map (λ b. b.me) books

-- some of the sites are closed, and the others are left
pub record Closes (n start : ℕ) (books : List BookState) (left : List ℕ) : Type 0 where
  pub numbers : numbers_of books ++ left ≡ range_with_len 1 n
  pub counts : All (λ b. b.nodes ≡ n) books
  pub starts : All (λ b. b.start ≡ start) books
  pub whole : All IsWhole books
  pub histories : All HasHistory books

pub closes_none : (n start : ℕ) (sites : List ℕ) → sites ≡ range_with_len 1 n → Closes n start [] sites
closes_none n start sites is = record {
  numbers = is;
  counts = All-nil (λ (b : BookState). b.nodes ≡ n);
  starts = All-nil (λ (b : BookState). b.start ≡ start);
  whole = All-nil IsWhole;
  histories = All-nil HasHistory;
}

pub how_many : (n start : ℕ) (books : List BookState) (left : List ℕ) → Closes n start books left → length books + length left ≡ n
how_many n start books left c =
    omega (arith, ap length c.numbers, length-append (numbers_of books) left, length-map books (λ (b : BookState). b.me), length-range_with_len 1 n)

-- the next one is the node after those that are closed
pub next_is : (n start : ℕ) (books : List BookState) (me : ℕ) (left : List ℕ) → Closes n start books (me ∷ left) → me ≡ length books + 1
next_is n start books me left c =
    let prefix = numbers_of books in
    let many = how_many n start books (me ∷ left) c in
    let count = length-map books (λ (b : BookState). b.me) in
    let low : length prefix < n = omega (arith, many, count) in
    omega (
      arith,
      get_or-append_seam prefix me left 0,
      ap (λ (xs : List ℕ). get_or xs (length prefix) 0) c.numbers,
      get_or-range_with_len 1 n (length prefix) 0 low,
      count,
    )

pub next_within : (n start : ℕ) (books : List BookState) (me : ℕ) (left : List ℕ) → Closes n start books (me ∷ left) → me ≤ n
next_within n start books me left c = omega (arith, next_is n start books me left c, how_many n start books (me ∷ left) c)

pub closes_more : (n start : ℕ) (books : List BookState) (me : ℕ) (left : List ℕ) (b : BookState) → Closes n start books (me ∷ left)
    → b.me ≡ me → b.nodes ≡ n → b.start ≡ start → IsWhole b → HasHistory b → Closes n start (books ++ b ∷ []) left
closes_more n start books me left b c me_is nodes start_is whole history =
    record {
      numbers =
          ap (λ (xs : List ℕ). xs ++ left) (map-append (λ (x : BookState). x.me) books (b ∷ []))
          ∙ append_assoc (numbers_of books) (b.me ∷ []) left
          ∙ ap (λ (x : ℕ). numbers_of books ++ x ∷ left) me_is
          ∙ c.numbers;
      counts = All-append (λ (x : BookState). x.nodes ≡ n) books (b ∷ []) c.counts (All-cons (λ (x : BookState). x.nodes ≡ n) b [] nodes (All-nil (λ (x : BookState). x.nodes ≡ n)));
      starts = All-append (λ (x : BookState). x.start ≡ start) books (b ∷ []) c.starts (All-cons (λ (x : BookState). x.start ≡ start) b [] start_is (All-nil (λ (x : BookState). x.start ≡ start)));
      whole = All-append IsWhole books (b ∷ []) c.whole (All-cons IsWhole b [] whole (All-nil IsWhole));
      histories = All-append HasHistory books (b ∷ []) c.histories (All-cons HasHistory b [] history (All-nil HasHistory));
    }

-- all books of at least one site begin with the first, which is from the start of all
start_of_all : (start : ℕ) (books : List BookState) → 1 ≤ length books → All (λ b. b.start ≡ start) books → start_of books ≡ start
start_of_all start [] some starts = absurd (omega arith)
start_of_all start (b ∷ books) some starts = starts 0 b (omega arith)

-- once none is left the books are a cluster
pub record IsClosed (n start : ℕ) (books : List BookState) : Type 0 where
  pub cluster : IsCluster books
  pub count : length books ≡ n
  pub start_is : start_of books ≡ start
  pub histories : All HasHistory books

pub closes_all : (n start : ℕ) (books : List BookState) (left : List ℕ) → 1 ≤ n → length left ≡ 0 → Closes n start books left → IsClosed n start books
closes_all n start books left some empty c =
    let count : length books ≡ n = omega (arith, empty, how_many n start books left c) in
    let first = start_of_all start books (omega (arith, count)) c.starts in
    let none : left ≡ [] = nil_from_length left empty in
    let prefix = numbers_of books in
    record {
      cluster = record {
        some = omega (arith, count);
        numbers =
            sym (append-nil prefix)
            ∙ ap (λ (xs : List ℕ). prefix ++ xs) (sym none)
            ∙ c.numbers
            ∙ ap (λ (k : ℕ). range_with_len 1 k) (sym count);
        one_count = λ k d within. c.counts k d within ∙ sym count;
        one_start = λ k d within. c.starts k d within ∙ sym first;
        whole = c.whole;
      };
      count = count;
      start_is = first;
      histories = c.histories;
    }

-- this many of the sites, from the first one on, have the numbers of the first nodes
abbrev pub AreFirst : List SiteState → ℕ → Type 0
AreFirst sites i = (k : ℕ) (d : SiteState) → k < i → (get_or sites k d).node ≡ k + 1

-- if each site has the number of its place, they are the sites of nodes 1 to n, in order
pub numbers_of_first : (sites : List SiteState) (i : ℕ) → i ≡ length sites → AreFirst sites i → nodes_at sites ≡ range_with_len 1 (length sites)
numbers_of_first sites i all first =
    let count = length-map sites (λ (site : SiteState). site.node) in
    same_lists (nodes_at sites) (range_with_len 1 (length sites)) (count ∙ sym (length-range_with_len 1 (length sites)))
    (λ k d within.
    let low : k < length sites = omega (arith, within, count) in
    get_or-map (λ (site : SiteState). site.node) sites k (site_at false 0) d low
    ∙ first k (site_at false 0) (omega (arith, all, low))
    ∙ (let e : k + 1 ≡ 1 + k = omega arith in e)
    ∙ sym (get_or-range_with_len 1 (length sites) k d low))

-- the other way round, the number of each is its place
pub number_of : (sites : List SiteState) → nodes_at sites ≡ range_with_len 1 (length sites) → (k : ℕ) (d : SiteState) → k < length sites
    → (get_or sites k d).node ≡ k + 1
number_of sites are k d within =
    sym (get_or-map (λ (site : SiteState). site.node) sites k d 0 within)
    ∙ ap (λ (xs : List ℕ). get_or xs k 0) are
    ∙ get_or-range_with_len 1 (length sites) k 0 within
    ∙ (let e : 1 + k ≡ k + 1 = omega arith in e)
