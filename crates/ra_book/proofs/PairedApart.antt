-- Books whose pairs fit, and that each sent different messages: no message came twice. So they fit.
use Rattle.std.proofs.Common.{◌≡◌, ◌≢◌, ℕ, ◌-◌, ◌<◌, ◌≤◌, Bool, eqb, List, [], ◌∷◌, ◌++◌, map, length, get_or, refl, sym, ap, ◌∙◌, subst, arith}
use Rattle.std.specs.Prelude.{All}
use Rattle.std.specs.List.{flat_map}
use Rattle.std.proofs.lemmas.Bool.{eq-eqb}
use Rattle.std.proofs.lemmas.List.{append-nil, map-append}
use Rattle.std.proofs.lemmas.List.Elements.{All-map, All-weaker}
use Rattle.std.proofs.lemmas.List.Kept.{AllPairs-filter}
use Rattle.ra_stamp.specs.NodeId.{IsNodeNumber}
use Rattle.ra_stamp.specs.declared.message.Message.{Message}
use Rattle.ra_stamp.specs.Message.{from_of, to_of}
use Rattle.ra_automaton.specs.State.{IsForNode}
use Rattle.ra_node.specs.Events.{Happening}
use Rattle.ra_world.specs.declared.step.Step.{Step}
use Rattle.ra_world.specs.Traffic.{Move, sent_by, repeated_by}
use Rattle.ra_world.specs.Run.{IsRun, happened_at}
use Rattle.ra_world.specs.Fitting.{FitWithCopies}
use Rattle.ra_book.specs.declared.book.sent.Sent.{Sent}
use Rattle.ra_book.specs.Book.{BookState, HasHistory}
use Rattle.ra_book.specs.Keys.{messages_among}
use Rattle.ra_book.specs.Pairs.{PairsFit, sent_to, come_from}
use Rattle.ra_book.specs.Settled.{IsCluster, BooksFit, all_received, received_among, start_of, steps_of}
use Rattle.ra_book.proofs.BooksFit.{each_different, node_count}
use Rattle.ra_book.proofs.Deliveries.{happened}
use Rattle.ra_book.proofs.Distinct.{AreDifferent, pairs_left, kept_apart}
use Rattle.ra_book.proofs.Happened.{messages_sent}
use Rattle.ra_book.proofs.LossesApart.{messages_of, apart_by_book, numbers_apart}
use Rattle.ra_book.proofs.PairedBooks.{messages, messages_kept, come_at, book_of, pair_at, all_sent, steps_fit}
use Rattle.ra_book.proofs.Projections.{nothing_repeated}
use Rattle.ra_book.proofs.SettledNodes.{nobody}
use Rattle.ra_book.proofs.SettledOrders.{settled_order}
use Rattle.ra_book.proofs.WasSent.{all_sent as none_unsent, no_repeats}
use Rattle.ra_book.proofs.Whole.{HasWholeHistory, whole_histories}

-- the messages that came, book by book
all_messages : (books : List BookState) → messages (all_received books) ≡ flat_map (λ b. messages_among b.events) books
all_messages [] = refl
all_messages (b ∷ books) =
    map-append (λ f. f.message) (received_among b.events) (all_received books) ∙ ap (λ (ms : List Message). messages_among b.events ++ ms) (all_messages books)

module _ (books : List BookState) (cluster : IsCluster books) (histories : All HasWholeHistory books) (fit : PairsFit books) (different : All (λ b. AreDifferent (messages_of b)) books) where
  abbrev n : ℕ
  n = length books

  -- what a book sent to a node
  sent_apart : (j i : ℕ) → 1 ≤ j → j ≤ n → AreDifferent (messages (sent_to i (book_of books cluster histories fit j)))
  sent_apart j i low high =
      let b = book_of books cluster histories fit j in
      let frames = map (λ (s : Sent). s.frame) b.sent in
      let to_it : Message → Bool = λ m. eqb (to_of m) i in
      subst AreDifferent (sym (messages_kept to_it frames))
      (AllPairs-filter (λ a c. a ≢ c) to_it (messages frames) (subst AreDifferent (sym (messages_sent b.sent)) (different (j - 1) nobody (omega (arith, low, high)))))

  -- what came at a book is for its node
  came_for : (k : ℕ) (d : BookState) → k < n → All (λ m. IsForNode (get_or books k d).me n m) (messages_among (get_or books k d).events)
  came_for k d low =
      let b = get_or books k d in
      All-map (λ m. IsForNode b.me n m) (λ f. f.message) (received_among b.events) (come_at books cluster histories fit k d low)

  -- equal messages come from one node, and what came from one node is the first of what it sent there
  came_apart : All (λ b. AreDifferent (messages_among b.events)) books
  came_apart k d low x y e below within same =
      let b = get_or books k d in
      let j = from_of (get_or (messages_among b.events) x e) in
      let other = (came_for k d low x e (omega (arith, below, within))).from in
      let pair = pair_at books cluster histories fit k d low j other in
      let from_it : Message → Bool = λ m. eqb (from_of m) j in
      let first : AreDifferent (messages (come_from j b)) =
      pairs_left (λ a c. a ≢ c) (messages (come_from j b)) (messages pair.0)
      (subst AreDifferent (ap messages pair.1 ∙ map-append (λ f. f.message) (come_from j b) pair.0) (sent_apart j b.me other.first other.last))
      in
      kept_apart from_it (messages_among b.events) (subst AreDifferent (messages_kept from_it (received_among b.events)) first) x y e below within (eq-eqb j j refl) same

  pub received_apart : AreDifferent (messages (all_received books))
  received_apart =
      subst AreDifferent (sym (all_messages books))
      (apart_by_book (λ b. messages_among b.events) to_of books (numbers_apart books cluster) came_apart
      (λ k d low.
      let b = get_or books k d in
      All-weaker (λ m. IsForNode b.me n m) (λ m. to_of m ≡ b.me) (λ m is. is.to) (messages_among b.events) (came_for k d low)))

-- ---- They fit

pub pairs_fit :
    ((n start : ℕ) (steps : List Step) (happened : ℕ → List Happening) → IsNodeNumber n → FitWithCopies n start steps happened
    → (moves : List Move) × (map (λ move. move.step) moves ≡ steps) × IsRun n start moves × ((i : ℕ) → 1 ≤ i → i ≤ n → happened_at i moves ≡ happened i))
    → ((n start : ℕ) (moves : List Move) → IsNodeNumber n → IsRun n start moves → repeated_by moves ≡ [] → AreDifferent (sent_by moves))
    → ((b : BookState) → HasHistory b → All (λ s. from_of s.frame.message ≡ b.me) b.sent)
    → (books : List BookState) → IsCluster books → All HasHistory books → PairsFit books → BooksFit books
pairs_fit fitting differ own books cluster histories fit =
    let n = length books in
    let count = node_count books cluster histories in
    let whole = whole_histories books cluster histories in
    let order = settled_order books cluster histories in
    let owned : All (λ b. All (λ s. from_of s.frame.message ≡ b.me) b.sent) books = λ k d low. own (get_or books k d) (histories k d low) in
    let ran =
    fitting n (start_of books) (steps_of order.0) (happened books order.0 cluster whole order.1) count (steps_fit books cluster whole fit owned order.0 order.1)
    in
    let once = nothing_repeated ran.0 order.0 [] (ran.1 ∙ sym (append-nil (steps_of order.0))) in
    let different = each_different books order.0 cluster whole order.1 ran.0 ran.3 (differ n (start_of books) ran.0 count ran.2 once) in (
      none_unsent books (all_sent books cluster whole fit owned),
      no_repeats (messages (all_received books)) (received_apart books cluster whole fit different),
    )
