-- What a book was after its first events is a book of its node.
use Rattle.std.proofs.Common.{◌≡◌, ◌≢◌, ℕ, ◌<◌, ◌≤◌, Bool, true, false, cond, eqb, leb, List, [], ◌∷◌, ◌++◌, map, length, get_or, take, drop, append_assoc, sym, ap, ◌∙◌, subst, arith}
use Rattle.std.specs.Prelude.{All}
use Rattle.std.specs.List.{filter, range_with_len}
use Rattle.std.proofs.lemmas.Bool.{false≢true, le-leb, leb-true}
use Rattle.std.proofs.lemmas.List.{length-map, append-nil, map-append, take-append-drop, take-take, take_all}
use Rattle.std.proofs.lemmas.List.Concat.{flat_map-append}
use Rattle.std.proofs.lemmas.List.Elements.{All-head, All-tail, All-map, All-weaker, All-filter, filter-append}
use Rattle.ra_stamp.specs.Message.{from_of, to_of}
use Rattle.ra_frame.specs.declared.frame.Frame.{Frame}
use Rattle.ra_node.specs.Node.{NodeState}
use Rattle.ra_world.proofs.Lists.{filter_hit, filter_miss, filter_none, head_of, tail_of}
use Rattle.ra_book.specs.declared.book.event.BookEvent.{BookEvent}
use Rattle.ra_book.specs.declared.book.sent.Sent.{Sent}
use Rattle.ra_book.specs.History.{IsHistory, AreClocked, Posting, clock_of, frames_of}
use Rattle.ra_book.specs.Book.{BookState, TakenState, IsWhole, HasHistory}
use Rattle.ra_book.specs.Cut.{first_of, cut_books, NoMoreCame}
use Rattle.ra_book.specs.Pairs.{AreFirstOf, PairsFit, come_from, sent_to}
use Rattle.ra_book.specs.Settled.{IsCluster, frames_in, received_among, start_of}
use Rattle.ra_book.proofs.Clocks.{clock_append}
use Rattle.ra_book.proofs.Distinct.{all_of_map}
use Rattle.ra_book.proofs.FirstParts.{no_less, up_to, clocked_later, cut_history}
use Rattle.ra_book.proofs.Whole.{whole_leads}

-- all of a list pass
all_pass : (p : Sent → Bool) (xs : List Sent) → All (λ x. p x ≡ true) xs → filter p xs ≡ xs
all_pass p [] all = λ i. []
all_pass p (x ∷ xs) all =
    filter_hit p x xs (All-head (λ x. p x ≡ true) x xs all) ∙ ap (λ (ys : List Sent). x ∷ ys) (all_pass p xs (All-tail (λ x. p x ≡ true) x xs all))

-- what passes the one test passes the other, too
twice : (p q : Sent → Bool) → ((x : Sent) → p x ≡ true → q x ≡ true) → (xs : List Sent) → filter p (filter q xs) ≡ filter p xs
twice p q both [] = λ i. []
twice p q both (x ∷ xs) = by_test (q x) (λ i. q x) (twice p q both xs)
  where
    fails : (b : Bool) → p x ≡ b → q x ≡ false → b ≡ false
    fails false e other = λ i. false
    fails true e other = absurd (false≢true (sym other ∙ both x e))

    by_test : (b : Bool) → q x ≡ b → filter p (filter q xs) ≡ filter p xs → filter p (cond b (x ∷ filter q xs) (filter q xs)) ≡ filter p (x ∷ xs)
    by_test true e rest = ap (λ (ys : List Sent). cond (p x) (x ∷ ys) ys) rest
    by_test false e rest = rest ∙ sym (filter_miss p x xs (fails (p x) (λ i. p x) e))

-- ---- What came

pub come_first : (count node : ℕ) (book : BookState) → AreFirstOf (come_from node (first_of count book)) (come_from node book)
come_first count node book =
    let events = take count book.events in
    let later = drop count book.events in
    let is_from : Frame → Bool = λ f. eqb (from_of f.message) node in (
      filter is_from (received_among later),
      ap (λ (es : List BookEvent). filter is_from (received_among es)) (sym (take-append-drop count book.events))
          ∙ ap (filter is_from) (flat_map-append (λ e. frames_in e.kind) events later)
          ∙ filter-append is_from (received_among events) (received_among later),
    )

-- ---- What was sent

module _ (count : ℕ) (book : BookState) (whole : IsWhole book) (history : HasHistory book) where
  abbrev events : List BookEvent
  events = take count book.events

  abbrev is_early : Sent → Bool
  is_early s = leb s.frame.clock (clock_of events)

  cut : (first : List Sent) × (rest : List Sent) × (middle : NodeState) × (book.sent ≡ first ++ rest) × IsHistory book.me book.nodes book.start events first middle
      × All (λ s. s.frame.clock ≤ clock_of events) first × All (λ s. clock_of events < s.frame.clock) rest
  cut =
      cut_history book.me book.nodes book.start events (drop count book.events) book.sent history.node
      (subst (λ (es : List BookEvent). IsHistory book.me book.nodes book.start es book.sent history.node) (sym (take-append-drop count book.events)) (whole_leads book whole history.node history.leads))

  -- those up to the clock are the first ones
  early : filter is_early book.sent ≡ cut.0
  early =
      ap (filter is_early) cut.3 ∙ filter-append is_early cut.0 cut.1
      ∙ (λ i. all_pass is_early cut.0 passes i ++ filter_none is_early cut.1 fails i)
      ∙ append-nil cut.0
    where
      passes : All (λ s. is_early s ≡ true) cut.0
      passes = All-weaker (λ s. s.frame.clock ≤ clock_of events) (λ s. is_early s ≡ true) (λ s low. le-leb s.frame.clock (clock_of events) low) cut.0 cut.5

      fails : All (λ s. is_early s ≡ false) cut.1
      fails = All-weaker (λ s. clock_of events < s.frame.clock) (λ s. is_early s ≡ false) (λ s more. too_late s.frame.clock (clock_of events) more) cut.1 cut.6
        where
          too_late : (a b : ℕ) → b < a → leb a b ≡ false
          too_late a b more = by_test (leb a b) (λ i. leb a b)
            where
              by_test : (t : Bool) → leb a b ≡ t → t ≡ false
              by_test false e = λ i. false
              by_test true e = let le = leb-true a b e in absurd (omega (arith, le, more))

  pub cut_book : HasHistory (first_of count book)
  cut_book =
      record {
        count = history.count;
        member = history.member;
        node = cut.2;
        leads =
            subst (λ (t : TakenState). IsHistory book.me book.nodes book.start (t.events ++ events) (t.sent ++ filter is_early book.sent) cut.2) (sym whole)
            (subst (λ (sent : List Sent). IsHistory book.me book.nodes book.start events sent cut.2) (sym early) cut.4);
      }

  pub sent_first : (node : ℕ) → AreFirstOf (sent_to node (first_of count book)) (sent_to node book)
  sent_first node =
      let frames : List Sent → List Frame = λ sent. map (λ (s : Sent). s.frame) sent in
      let is_to : Frame → Bool = λ f. eqb (to_of f.message) node in (
        filter is_to (frames cut.1),
        ap (λ (sent : List Sent). filter is_to (frames sent)) (cut.3 ∙ ap (λ (sent : List Sent). sent ++ cut.1) (sym early))
            ∙ ap (filter is_to) (map-append (λ (s : Sent). s.frame) (filter is_early book.sent) cut.1)
            ∙ filter-append is_to (frames (filter is_early book.sent)) (frames cut.1),
      )

  -- ---- Cut again, and not at all

  -- the clock of fewer events is not greater
  no_later : (first : ℕ) → first ≤ count → clock_of (take first book.events) ≤ clock_of events
  no_later first low =
      let clocked : AreClocked 0 events = cut.4.clocked in
      let parts : events ≡ take first events ++ drop first events = sym (take-append-drop first events) in
      let more = no_less (clock_of (take first events)) (drop first events) (clocked_later 0 (take first events) (drop first events) (subst (AreClocked 0) parts clocked)) in
      let whole = ap clock_of parts ∙ clock_append 0 (take first events) (drop first events) in
      let same = ap clock_of (take-take first count book.events low) in
      omega (arith, more, whole, same)

  pub cut_again : (first : ℕ) → first ≤ count → first_of first (first_of count book) ≡ first_of first book
  cut_again first low =
      let same : take first events ≡ take first book.events = take-take first count book.events low in
      let sent : filter (λ (s : Sent). leb s.frame.clock (clock_of (take first events))) (filter is_early book.sent) ≡ filter (λ (s : Sent). leb s.frame.clock (clock_of (take first book.events))) book.sent =
      ap (λ (es : List BookEvent). filter (λ (s : Sent). leb s.frame.clock (clock_of es)) (filter is_early book.sent)) same
      ∙ twice (λ s. leb s.frame.clock (clock_of (take first book.events))) is_early
      (λ s passes.
      let le = leb-true s.frame.clock (clock_of (take first book.events)) passes in
      le-leb s.frame.clock (clock_of events) (omega (arith, le, no_later first low))) book.sent
      in
      λ i. record book { events = same i; sent = sent i }

  pub cut_nothing : length book.events ≤ count → first_of count book ≡ book
  cut_nothing all =
      let leads = whole_leads book whole history.node history.leads in
      let same : events ≡ book.events = take_all count book.events all in
      let clocked : AreClocked 0 (map (λ (p : Posting). p.event) leads.postings) = subst (AreClocked 0) (sym leads.events_are) leads.clocked in
      let early_all : All (λ (s : Sent). s.frame.clock ≤ clock_of book.events) book.sent =
      all_of_map (λ (f : Frame). f.clock ≤ clock_of book.events) (λ s. s.frame) book.sent
      (subst (λ (fs : List Frame). All (λ f. f.clock ≤ clock_of book.events) fs) (sym leads.sent_are)
      (subst (λ (es : List BookEvent). All (λ f. f.clock ≤ clock_of es) (frames_of leads.postings)) leads.events_are (up_to 0 leads.postings clocked)))
      in
      let sent : filter is_early book.sent ≡ book.sent =
      all_pass is_early book.sent
      (All-weaker (λ s. s.frame.clock ≤ clock_of book.events) (λ s. is_early s ≡ true)
      (λ s low. le-leb s.frame.clock (clock_of events) (omega (arith, low, ap clock_of same))) book.sent early_all)
      in
      λ i. record book { events = same i; sent = sent i }

-- ---- A cluster

module _ (counts : ℕ → ℕ) where
  abbrev cut_of : BookState → BookState
  cut_of b = first_of (counts b.me) b

  same_numbers : (books : List BookState) → map (λ (b : BookState). b.me) (map cut_of books) ≡ map (λ b. b.me) books
  same_numbers [] = λ i. []
  same_numbers (b ∷ books) = ap (λ (ns : List ℕ). b.me ∷ ns) (same_numbers books)

  same_start : (books : List BookState) → start_of (map cut_of books) ≡ start_of books
  same_start [] = λ i. 0
  same_start (b ∷ books) = λ i. b.start

  pub cut_cluster : (books : List BookState) → IsCluster books → IsCluster (map cut_of books)
  cut_cluster books cluster =
      let long : length (map cut_of books) ≡ length books = length-map books cut_of in
      record {
        some = omega (arith, long, cluster.some);
        numbers = same_numbers books ∙ cluster.numbers ∙ ap (range_with_len 1) (sym long);
        one_count = All-map (λ b. b.nodes ≡ length (map cut_of books)) cut_of books (λ k d low. cluster.one_count k d low ∙ sym long);
        one_start = All-map (λ b. b.start ≡ start_of (map cut_of books)) cut_of books (λ k d low. cluster.one_start k d low ∙ sym (same_start books));
        whole = All-map IsWhole cut_of books cluster.whole;
      }

  pub cut_histories : (books : List BookState) → IsCluster books → All HasHistory books → All HasHistory (map cut_of books)
  cut_histories books cluster histories =
      All-map HasHistory cut_of books (λ k d low. let b = get_or books k d in cut_book (counts b.me) b (cluster.whole k d low) (histories k d low))

  -- of two lists that are the first of a third, one is the first of the other
  one_of_other : (xs ys : List Frame) (more others : List Frame) → xs ++ more ≡ ys ++ others → length xs ≤ length ys → AreFirstOf xs ys
  one_of_other [] ys more others e few = (ys, λ i. ys)
  one_of_other (x ∷ xs) [] more others e few = absurd (omega (arith, few))
  one_of_other (x ∷ xs) (y ∷ ys) more others e few =
      let rest = one_of_other xs ys more others (tail_of e) (omega (arith, few)) in
      (rest.0, λ i. sym (head_of e) i ∷ rest.1 i)

  -- what is cut from books whose pairs fit
  module _ (books : List BookState) (cluster : IsCluster books) (histories : All HasHistory books) (fit : PairsFit books) (no_more : NoMoreCame (map cut_of books)) where
    first_there : (k l : ℕ) (d e : BookState) → k < length books → l < length books → (get_or books k d).me ≢ (get_or books l e).me
        → AreFirstOf (come_from (get_or books l e).me (cut_of (get_or books k d))) (sent_to (get_or books k d).me (cut_of (get_or books l e)))
    first_there k l d e low within differ =
        let at = get_or books k d in
        let other = get_or books l e in
        let came = come_first (counts at.me) other.me at in
        let whole = fit.in_order k d low l e within differ in
        let sent = sent_first (counts other.me) other (cluster.whole l e within) (histories l e within) at.me in
        let come = come_from other.me (cut_of at) in
        let few = all_of_map (λ o. at.me ≢ o.me → length (come_from o.me (cut_of at)) ≤ length (sent_to at.me o)) cut_of books
        (all_of_map (λ a. All (λ o. a.me ≢ o.me → length (come_from o.me a) ≤ length (sent_to a.me o)) (map cut_of books)) cut_of books no_more k d low)
        l e within differ
        in
        one_of_other come (sent_to at.me (cut_of other)) (came.0 ++ whole.0) sent.0
        (sym (append_assoc come came.0 whole.0) ∙ ap (λ (fs : List Frame). fs ++ whole.0) (sym came.1) ∙ sym whole.1 ∙ sent.1) few

    cut_pair : PairsFit (map cut_of books)
    cut_pair =
        record {
          in_order = All-map (λ a. All (λ o. a.me ≢ o.me → AreFirstOf (come_from o.me a) (sent_to a.me o)) (map cut_of books)) cut_of books
              (λ k d low.
              All-map (λ o. (get_or books k d).me ≢ o.me → AreFirstOf (come_from o.me (cut_of (get_or books k d))) (sent_to (get_or books k d).me o)) cut_of books
              (λ l e within. first_there k l d e low within));
          none_lost = All-map (λ b. All (λ s. s.lost ≡ false) b.sent) cut_of books
              (λ k d low.
              let b = get_or books k d in
              All-filter (λ s. leb s.frame.clock (clock_of (take (counts b.me) b.events))) (λ s. s.lost ≡ false) b.sent (fit.none_lost k d low));
        }

pub cut_pairs : (counts : ℕ → ℕ) (books : List BookState) → IsCluster books → All HasHistory books → PairsFit books → NoMoreCame (cut_books counts books) → PairsFit (cut_books counts books)
cut_pairs counts books cluster histories fit no_more = cut_pair counts books cluster histories fit no_more
