-- The messages of the frames that are flagged lost: they are different from each other, and from those that came, if
-- the messages of each book are.
use Rattle.std.proofs.Common.{◌≡◌, ◌≢◌, ◌⊎◌, ℕ, ◌+◌, ◌<◌, Bool, true, false, cond, List, [], ◌∷◌, ◌++◌, map, length, get_or, refl, sym, ap, ◌∙◌, subst, arith, inl, inr}
use Rattle.std.specs.Prelude.{All, AllPairs, Contains}
use Rattle.std.specs.List.{filter, flat_map}
use Rattle.std.proofs.lemmas.Bool.{false≢true}
use Rattle.std.proofs.lemmas.List.{get_or_default}
use Rattle.std.proofs.lemmas.List.Elements.{All-head, All-tail, All-map, All-filter, All-weaker, All-contains}
use Rattle.ra_stamp.specs.declared.message.Message.{Message}
use Rattle.ra_stamp.specs.Message.{from_of}
use Rattle.ra_frame.specs.declared.frame.Frame.{Frame}
use Rattle.ra_book.specs.declared.book.sent.Sent.{Sent}
use Rattle.ra_book.specs.Book.{BookState}
use Rattle.ra_book.specs.Settled.{IsCluster, Placed, WasSent, lost_among, all_lost, frames_in}
use Rattle.ra_book.proofs.Merging.{number_at}
use Rattle.ra_book.proofs.Parts.{later, first_or_later, in_one}
use Rattle.ra_book.proofs.Distinct.{AreDifferent, pairs_first, pairs_rest, pairs_joined, different_kept, in_map}
use Rattle.ra_book.proofs.Deliveries.{all_of_each, delivered, all_delivered}

-- what a book sent, and what of it was lost
abbrev pub messages_of : BookState → List Message
messages_of b = map (λ s. s.frame.message) b.sent

-- ---- Of one book

abbrev message_in : Sent → Message
message_in s = s.frame.message

-- another frame, lost or not
module _ (s : Sent) (sent : List Sent) (m : Message) where
  -- the first one is lost and has this message, or it is among the later ones
  lost_here : Contains (lost_among (s ∷ sent)) m → ((s.lost ≡ true) × (message_in s ≡ m)) ⊎ Contains (lost_among sent) m
  lost_here is = by_flag s.lost refl is
    where
      by_flag : (b : Bool) → s.lost ≡ b → Contains (map message_in (cond b (s ∷ filter (λ s. s.lost) sent) (filter (λ s. s.lost) sent))) m
          → ((s.lost ≡ true) × (message_in s ≡ m)) ⊎ Contains (lost_among sent) m
      by_flag true e is =
          elim (first_or_later (message_in s) (lost_among sent) m is) [
            | inl same ↦ inl (e, same)
            | inr after ↦ inr after
          ]
      by_flag false e is = inr is

pub lost_is_sent : (sent : List Sent) (m : Message) → Contains (lost_among sent) m → Contains (map message_in sent) m
lost_is_sent [] m is = absurd (omega (arith, is.1))
lost_is_sent (s ∷ sent) m is =
    elim (lost_here s sent m is) [
      | inl here ↦ (0, omega arith, here.1)
      | inr after ↦ later (message_in s) (map message_in sent) m (lost_is_sent sent m after)
    ]

-- a message of a frame that was kept is not one of a frame that was lost
kept_or_lost : (sent : List Sent) (f : Frame) → AreDifferent (map message_in sent) → Contains sent (record { frame = f; lost = false }) → Contains (lost_among sent) f.message → ⊥
kept_or_lost [] f different kept lost = omega (arith, kept.1)
kept_or_lost (s ∷ sent) f different kept lost =
    by_cases (first_or_later s sent (record { frame = f; lost = false }) kept) (lost_here s sent f.message lost)
    (kept_or_lost sent f (pairs_rest (λ a b. a ≢ b) (message_in s) (map message_in sent) different))
  where
    apart : All (λ m. message_in s ≢ m) (map message_in sent)
    apart = pairs_first (λ a b. a ≢ b) (message_in s) (map message_in sent) different

    by_cases : (s ≡ record { frame = f; lost = false }) ⊎ Contains sent (record { frame = f; lost = false }) → ((s.lost ≡ true) × (message_in s ≡ f.message)) ⊎ Contains (lost_among sent) f.message
        → (Contains sent (record { frame = f; lost = false }) → Contains (lost_among sent) f.message → ⊥) → ⊥
    by_cases (inl same) (inl here) rest = false≢true (sym (ap (λ (x : Sent). x.lost) same) ∙ here.0)
    by_cases (inl same) (inr after) rest =
        All-contains (λ m. message_in s ≢ m) (map message_in sent) f.message apart (lost_is_sent sent f.message after) (ap message_in same)
    by_cases (inr kept) (inl here) rest =
        All-contains (λ m. message_in s ≢ m) (map message_in sent) f.message apart (in_map message_in sent (record { frame = f; lost = false }) kept) here.1
    by_cases (inr kept) (inr after) rest = rest kept after

-- ---- Of several books

-- lists of messages of each book, which has its node's number in each message
module _ (g : BookState → List Message) (number : Message → ℕ) where
  abbrev TellTheirBook : List BookState → Type 0
  TellTheirBook books = All (λ b. All (λ m. number m ≡ b.me) (g b)) books

  of_no_other : (i : ℕ) (books : List BookState) → All (λ b. b.me ≢ i) books → TellTheirBook books → All (λ m. number m ≢ i) (flat_map g books)
  of_no_other i books others tell =
      all_of_each (λ m. number m ≢ i) g books
      (λ k d low.
      let b = get_or books k d in
      All-weaker (λ m. number m ≡ b.me) (λ m. number m ≢ i) (λ m is same. others k d low (sym is ∙ same)) (g b) (tell k d low))

  -- are different, if each book's own are
  pub apart_by_book : (books : List BookState) → AllPairs (λ a b. a.me ≢ b.me) books → All (λ b. AreDifferent (g b)) books → TellTheirBook books → AreDifferent (flat_map g books)
  apart_by_book [] numbers each tell = λ i j d below within. absurd (omega (arith, within))
  apart_by_book (b ∷ books) numbers each tell =
      let others : All (λ m. number m ≢ b.me) (flat_map g books) =
      of_no_other b.me books (All-weaker (λ x. b.me ≢ x.me) (λ x. x.me ≢ b.me) (λ x apart same. apart (sym same)) books (pairs_first (λ a b. a.me ≢ b.me) b books numbers))
      (All-tail (λ b. All (λ m. number m ≡ b.me) (g b)) b books tell)
      in
      pairs_joined (λ a b. a ≢ b) (g b) (flat_map g books)
      (All-head (λ b. AreDifferent (g b)) b books each)
      (apart_by_book books (pairs_rest (λ a b. a.me ≢ b.me) b books numbers) (All-tail (λ b. AreDifferent (g b)) b books each)
      (All-tail (λ b. All (λ m. number m ≡ b.me) (g b)) b books tell))
      (All-weaker (λ m. number m ≡ b.me) (λ m. All (λ x. m ≢ x) (flat_map g books))
      (λ m is. All-weaker (λ x. number x ≢ b.me) (λ x. m ≢ x) (λ x other same. other (ap number (sym same) ∙ is)) (flat_map g books) others)
      (g b) (All-head (λ b. All (λ m. number m ≡ b.me) (g b)) b books tell))

pub numbers_apart : (books : List BookState) → IsCluster books → AllPairs (λ a b. a.me ≢ b.me) books
numbers_apart books cluster i j d below within same =
    let low : i < length books = omega (arith, below, within) in
    omega (arith, below, sym (number_at books cluster i d low) ∙ same ∙ number_at books cluster j d within)

module _ (books : List BookState) (cluster : IsCluster books) (own : All (λ b. All (λ s. from_of s.frame.message ≡ b.me) b.sent) books) (different : All (λ b. AreDifferent (messages_of b)) books) where
  own_lost : All (λ b. All (λ m. from_of m ≡ b.me) (lost_among b.sent)) books
  own_lost k d low =
      let b = get_or books k d in
      All-map (λ m. from_of m ≡ b.me) message_in (filter (λ s. s.lost) b.sent) (All-filter (λ s. s.lost) (λ s. from_of s.frame.message ≡ b.me) b.sent (own k d low))

  pub lost_apart : AreDifferent (all_lost books)
  lost_apart = apart_by_book (λ b. lost_among b.sent) from_of books (numbers_apart books cluster) (λ k d low. different_kept message_in (λ s. s.lost) (get_or books k d).sent (different k d low)) own_lost

  -- a frame that was sent and kept has the message of none that was lost
  sent_not_lost : (f : Frame) → WasSent books f → Contains (all_lost books) f.message → ⊥
  sent_not_lost f (k, b, low, at, is) lost =
      let found = in_one (λ b. lost_among b.sent) books f.message lost in
      let i = found.0 in
      let c = found.1 in
      let from : from_of f.message ≡ c.me =
      All-contains (λ m. from_of m ≡ c.me) (lost_among c.sent) f.message
      (subst (λ (x : BookState). All (λ m. from_of m ≡ x.me) (lost_among x.sent)) found.3 (own_lost i c found.2)) found.4
      in
      let here : b.me ≡ k + 1 = ap (λ (x : BookState). x.me) (sym at) ∙ number_at books cluster k b low in
      let there : c.me ≡ i + 1 = ap (λ (x : BookState). x.me) (sym found.3) ∙ number_at books cluster i c found.2 in
      let places : k ≡ i = omega (arith, sym here ∙ is.0 ∙ from ∙ there) in
      let same : b ≡ c = sym at ∙ ap (λ (m : ℕ). get_or books m b) places ∙ get_or_default books i b c found.2 ∙ found.3 in
      kept_or_lost b.sent f (subst (λ (x : BookState). AreDifferent (messages_of x)) at (different k b low)) is.1
      (subst (λ (x : BookState). Contains (lost_among x.sent) f.message) (sym same) found.4)

  -- the messages that came and those that were lost are all different
  pub all_apart : (placed : List Placed) → All (λ p. All (λ f. WasSent books f) (frames_in p.event.kind)) placed → AreDifferent (delivered placed) → AreDifferent (delivered placed ++ all_lost books)
  all_apart placed sent came =
      pairs_joined (λ a b. a ≢ b) (delivered placed) (all_lost books) came lost_apart
      (all_delivered (λ m. All (λ x. m ≢ x) (all_lost books)) placed
      (All-weaker (λ p. All (λ f. WasSent books f) (frames_in p.event.kind)) (λ p. All (λ f. All (λ x. f.message ≢ x) (all_lost books)) (frames_in p.event.kind))
      (λ p. All-weaker (λ f. WasSent books f) (λ f. All (λ x. f.message ≢ x) (all_lost books)) (λ f was. none_lost f was) (frames_in p.event.kind)) placed sent))
    where
      none_lost : (f : Frame) → WasSent books f → All (λ x. f.message ≢ x) (all_lost books)
      none_lost f was k d low same = sent_not_lost f was (k, low, get_or_default (all_lost books) k f.message d low ∙ sym same)
