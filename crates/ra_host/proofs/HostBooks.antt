-- The books of hosts: they are those of a cluster, and fit if each two hosts took frames once and in order.
use Rattle.std.proofs.Common.{◌≡◌, ◌≢◌, ℕ, zero, suc, ◌+◌, ◌-◌, ◌<◌, ◌≤◌, false, List, [], ◌∷◌, ◌++◌, map, length, get_or, take, drop, append_assoc, refl, sym, ap, ◌∙◌, subst, arith}
use Rattle.std.specs.Prelude.{All, Contains}
use Rattle.std.specs.List.{range_with_len}
use Rattle.std.proofs.lemmas.List.{get_or-map, length-append, length-map, length-take, take-append-drop, take-map}
use Rattle.std.proofs.lemmas.List.Elements.{All-head, All-map, All-tail, Contains-get_or}
use Rattle.std.proofs.lemmas.List.FromFn.{get_or-range_with_len, length-range_with_len}
use Rattle.ra_frame.specs.declared.frame.Frame.{Frame}
use Rattle.ra_world.proofs.Lists.{head_of, tail_of}
use Rattle.ra_link.specs.Pair as pair
use Rattle.ra_book.specs.Book.{BookState, IsWhole, HasHistory}
use Rattle.ra_book.specs.Cut.{first_of, cut_books, NoMoreCame}
use Rattle.ra_book.specs.Pairs.{AreFirstOf, PairsFit, AllHasCome, sent_to, come_from}
use Rattle.ra_book.specs.Settled.{IsCluster, start_of}
use Rattle.ra_host.specs.Host.{on_disk}
use Rattle.ra_host.specs.Hosts.{Hosts, books_of, disks_of}
use Rattle.ra_host.specs.Projection.{view_of}
use Rattle.ra_host.proofs.Acknowledged.{all_of_it}
use Rattle.ra_host.proofs.Coded.{code_of, same_code}
use Rattle.ra_host.proofs.Sound.{BookLaws, IsSound}
use Rattle.ra_host.proofs.Views.{first_is_short}

-- ---- Frames and their codes

first_frames : (xs ys : List Frame) (more : List (List ℕ)) → map code_of xs ++ more ≡ map code_of ys → AreFirstOf xs ys
first_frames [] ys more is = (ys, refl)
first_frames (x ∷ xs) [] more is = absurd (cc)
first_frames (x ∷ xs) (y ∷ ys) more is =
    let rest = first_frames xs ys more (tail_of is) in
    let same : y ≡ x = sym (same_code x y (head_of is)) in
    (rest.0, λ at. same at ∷ rest.1 at)

same_frames : (xs ys : List Frame) → map code_of xs ≡ map code_of ys → xs ≡ ys
same_frames [] [] is = refl
same_frames [] (y ∷ ys) is = absurd (cc)
same_frames (x ∷ xs) [] is = absurd (cc)
same_frames (x ∷ xs) (y ∷ ys) is =
    let same = same_code x y (head_of is) in
    let rest = same_frames xs ys (tail_of is) in
    λ at. same at ∷ rest at

-- ---- Two hosts

-- host `to` took frames of host `from` once and in order, and so it is on their disks
pub record InOrder (s : Hosts) (to from : ℕ) : Type 0 where
  pub taken : pair.IsPrefixOf (view_of code_of (s.host to) from).taken (take (view_of code_of (s.host from) to).sent_kept (view_of code_of (s.host from) to).sent)
  pub kept : pair.IsPrefixOf (take (view_of code_of (s.host to) from).taken_kept (view_of code_of (s.host to) from).taken)
      (take (view_of code_of (s.host from) to).sent_kept (view_of code_of (s.host from) to).sent)

come_in_order : (s : Hosts) (to from : ℕ) → InOrder s to from → AreFirstOf (come_from from (s.host to).book) (sent_to to (s.host from).book)
come_in_order s to from is =
    let sent = sent_to to (s.host from).book in
    let kept = length (sent_to to (on_disk (s.host from))) in
    let first = first_frames (come_from from (s.host to).book) (take kept sent) is.taken.0 (is.taken.1 ∙ take-map code_of kept sent) in (
      first.0 ++ drop kept sent,
      sym (take-append-drop kept sent) ∙ ap (λ (fs : List Frame). fs ++ drop kept sent) first.1
          ∙ append_assoc (come_from from (s.host to).book) first.0 (drop kept sent),
    )

-- no more frames are on the one disk than on the other one
no_more_came : BookLaws → (s : Hosts) (to from : ℕ) → InOrder s to from → length (come_from from (on_disk (s.host to))) ≤ length (sent_to to (on_disk (s.host from)))
no_more_came laws s to from is =
    let here = view_of code_of (s.host to) from in
    let there = view_of code_of (s.host from) to in
    let parts = ap length is.kept.1 in
    let both = length-append (take here.taken_kept here.taken) is.kept.0 in
    let mine = length-take here.taken_kept here.taken in
    let others = length-take there.sent_kept there.sent in
    let all = length-map (come_from from (s.host to).book) code_of in
    let short = first_is_short (come_from from (on_disk (s.host to))) (come_from from (s.host to).book) (laws.come (s.host to).kept from (s.host to).book) in
    omega (arith, parts, both, mine, others, all, short)

-- host `to` took all frames of host `from`, and they are on both disks
pub record AllTaken (s : Hosts) (to from : ℕ) : Type 0 where
  pub taken : (view_of code_of (s.host to) from).taken ≡ (view_of code_of (s.host from) to).sent
  pub taken_kept : (view_of code_of (s.host to) from).taken_kept ≡ length (view_of code_of (s.host to) from).taken
  pub sent_kept : (view_of code_of (s.host from) to).sent_kept ≡ length (view_of code_of (s.host from) to).sent

all_came : BookLaws → (s : Hosts) (to from : ℕ) → IsWhole (s.host from).book → HasHistory (s.host from).book → AllTaken s to from
    → come_from from (on_disk (s.host to)) ≡ sent_to to (on_disk (s.host from))
all_came laws s to from whole history is =
    let here = s.host to in
    let there = s.host from in
    all_of_it (come_from from (on_disk here)) (come_from from here.book) (laws.come here.kept from here.book) (is.taken_kept ∙ length-map (come_from from here.book) code_of)
    ∙ same_frames (come_from from here.book) (sent_to to there.book) is.taken
    ∙ sym (all_of_it (sent_to to (on_disk there)) (sent_to to there.book) (laws.sent there.kept to there.book whole history) (is.sent_kept ∙ length-map (sent_to to there.book) code_of))

-- ---- All hosts

numbers_of : (s : Hosts) (first n : ℕ) → ((i : ℕ) → first ≤ i → i < first + n → (s.host i).book.me ≡ i)
    → map (λ (b : BookState). b.me) (map (λ i. (s.host i).book) (range_with_len first n)) ≡ range_with_len first n
numbers_of s first zero named = refl
numbers_of s first (suc n) named =
    let rest = numbers_of s (first + 1) n (λ i low high. named i (omega (arith, low)) (omega (arith, high))) in
    let one = named first (omega arith) (omega arith) in
    λ at. one at ∷ rest at

start_is : (s : Hosts) (n start : ℕ) → 1 ≤ n → (1 ≤ n → (s.host 1).book.start ≡ start) → start_of (books_of n s) ≡ start
start_is s zero start some is = absurd (omega (arith, some))
start_is s (suc n) start some is = is some

-- each host has the events of its book that are on its disk
cut_here : (s : Hosts) (is : List ℕ) → All (λ i. (s.host i).book.me ≡ i) is
    → cut_books (λ i. (s.host i).kept) (map (λ i. (s.host i).book) is) ≡ map (λ i. on_disk (s.host i)) is
cut_here s [] named = refl
cut_here s (i ∷ is) named =
    let one = All-head (λ k. (s.host k).book.me ≡ k) i is named in
    let rest = cut_here s is (All-tail (λ k. (s.host k).book.me ≡ k) i is named) in
    λ at. first_of (s.host (one at)).kept (s.host i).book ∷ rest at

module _ (laws : BookLaws) (n start : ℕ) (some : 1 ≤ n) (s : Hosts) (sound : (i : ℕ) → 1 ≤ i → i ≤ n → IsSound n start i (s.host i)) where
  abbrev numbers : List ℕ
  numbers = range_with_len 1 n

  -- what holds of each host, holds of the list
  for_each : (P : ℕ → Type 0) → ((i : ℕ) → 1 ≤ i → i ≤ n → P i) → All P numbers
  for_each P each k d low =
      let within : k < n = omega (arith, low, length-range_with_len 1 n) in
      let is = get_or-range_with_len 1 n k d within in
      each (get_or numbers k d) (omega (arith, is)) (omega (arith, is, within))

  many : length (books_of n s) ≡ n
  many = length-map numbers (λ i. (s.host i).book) ∙ length-range_with_len 1 n

  pub cluster : IsCluster (books_of n s)
  cluster =
      record {
        some = omega (arith, many, some);
        numbers = numbers_of s 1 n (λ i low high. (sound i low (omega (arith, high))).me) ∙ ap (range_with_len 1) (sym many);
        one_count = All-map (λ b. b.nodes ≡ length (books_of n s)) (λ i. (s.host i).book) numbers (for_each (λ i. (s.host i).book.nodes ≡ length (books_of n s)) (λ i low high. (sound i low high).nodes ∙ sym many));
        one_start =
            let first = start_is s n start some (λ one. (sound 1 (omega arith) one).start_is) in
            All-map (λ b. b.start ≡ start_of (books_of n s)) (λ i. (s.host i).book) numbers (for_each (λ i. (s.host i).book.start ≡ start_of (books_of n s)) (λ i low high. (sound i low high).start_is ∙ sym first));
        whole = All-map IsWhole (λ i. (s.host i).book) numbers (for_each (λ i. IsWhole (s.host i).book) (λ i low high. (sound i low high).whole));
      }

  pub histories : All HasHistory (books_of n s)
  histories = All-map HasHistory (λ i. (s.host i).book) numbers (for_each (λ i. HasHistory (s.host i).book) (λ i low high. (sound i low high).history))

  pub disks_cut : cut_books (λ i. (s.host i).kept) (books_of n s) ≡ disks_of n s
  disks_cut = cut_here s numbers (for_each (λ i. (s.host i).book.me ≡ i) (λ i low high. (sound i low high).me))

  pub has_book : (i : ℕ) → 1 ≤ i → i ≤ n → Contains (books_of n s) (s.host i).book
  has_book i low high =
      let k = i - 1 in
      let d = (s.host i).book in
      let at : get_or numbers k 0 ≡ i =
      let is = get_or-range_with_len 1 n k 0 (omega (arith, low, high)) in omega (arith, is, low) in
      let within : k < length numbers = let long = length-range_with_len 1 n in omega (arith, long, low, high) in
      subst (Contains (books_of n s)) (get_or-map (λ j. (s.host j).book) numbers k 0 d within ∙ ap (λ j. (s.host j).book) at)
      (Contains-get_or (books_of n s) k d (omega (arith, many, low, high)))

  -- what holds of each two hosts, holds of their books, or of what is on their disks
  for_each_two : (book : ℕ → BookState) → ((i : ℕ) → 1 ≤ i → i ≤ n → (book i).me ≡ i) → (P : ℕ → ℕ → BookState → BookState → Type 0)
      → ((to from : ℕ) → 1 ≤ to → to ≤ n → 1 ≤ from → from ≤ n → to ≢ from → P to from (book to) (book from))
      → All (λ at. All (λ other. at.me ≢ other.me → P at.me other.me at other) (map book numbers)) (map book numbers)
  for_each_two book named P each =
      let whole : BookState → Type 0 = λ at. All (λ other. at.me ≢ other.me → P at.me other.me at other) (map book numbers) in
      All-map whole book numbers
      (for_each (λ to. whole (book to))
      (λ to low high.
      All-map (λ other. (book to).me ≢ other.me → P (book to).me other.me (book to) other) book numbers
      (for_each (λ from. (book to).me ≢ (book from).me → P (book to).me (book from).me (book to) (book from))
      (λ from first last differ.
      subst (λ (m : ℕ). P m (book from).me (book to) (book from)) (sym (named to low high))
      (subst (λ (m : ℕ). P to m (book to) (book from)) (sym (named from first last))
      (each to from low high first last (λ same. differ (ap (λ i. (book i).me) same))))))))

  module _ (in_order : (to from : ℕ) → 1 ≤ to → to ≤ n → 1 ≤ from → from ≤ n → to ≢ from → InOrder s to from) where
    pub books_fit : PairsFit (books_of n s)
    books_fit =
        record {
          in_order = for_each_two (λ i. (s.host i).book) (λ i low high. (sound i low high).me) (λ to from at other. AreFirstOf (come_from from at) (sent_to to other))
              (λ to from low high first last differ. come_in_order s to from (in_order to from low high first last differ));
          none_lost = All-map (λ b. All (λ x. x.lost ≡ false) b.sent) (λ i. (s.host i).book) numbers (for_each (λ i. All (λ x. x.lost ≡ false) (s.host i).book.sent) (λ i low high. (sound i low high).none_lost));
        }

    no_more : NoMoreCame (disks_of n s)
    no_more =
        for_each_two (λ i. on_disk (s.host i)) (λ i low high. (sound i low high).me) (λ to from at other. length (come_from from at) ≤ length (sent_to to other))
        (λ to from low high first last differ. no_more_came laws s to from (in_order to from low high first last differ))

    pub disks_fit :
        ((counts : ℕ → ℕ) (books : List BookState) → IsCluster books → All HasHistory books → PairsFit books
        → NoMoreCame (cut_books counts books) → PairsFit (cut_books counts books))
        → PairsFit (disks_of n s)
    disks_fit cut_pairs =
        subst PairsFit disks_cut (cut_pairs (λ i. (s.host i).kept) (books_of n s) cluster histories books_fit (subst NoMoreCame (sym disks_cut) no_more))

  pub all_has_come : ((to from : ℕ) → 1 ≤ to → to ≤ n → 1 ≤ from → from ≤ n → to ≢ from → AllTaken s to from) → AllHasCome (disks_of n s)
  all_has_come all =
      for_each_two (λ i. on_disk (s.host i)) (λ i low high. (sound i low high).me) (λ to from at other. come_from from at ≡ sent_to to other)
      (λ to from low high first last differ.
      let there = sound from first last in all_came laws s to from there.whole there.history (all to from low high first last differ))
