-- What comes by the lines of books is what came to the books, in whatever order they are.
use Rattle.std.proofs.Common.{◌≡◌, ◌≢◌, ℕ, ◌+◌, ◌<◌, List, [], ◌∷◌, ◌++◌, append_assoc, map, length, get_or, swap, inl, inr, refl, sym, ap, subst, ◌∙◌, arith}
use Rattle.std.specs.Prelude.{All, AllPairs, Contains}
use Rattle.std.specs.List.{flat_map}
use Rattle.std.specs.List.Sorted.{IsPermutation}
use Rattle.std.proofs.lemmas.Bool.{cases_lt, cases_eq}
use Rattle.std.proofs.lemmas.List.{map-append}
use Rattle.std.proofs.lemmas.List.Edits.{Swapped, length-swap, swapped_from_swap}
use Rattle.std.proofs.lemmas.List.Elements.{All-cons, All-contains_itself, All-head, All-map, All-nil, All-tail}
use Rattle.std.proofs.lemmas.List.Kept.{AllPairs-cons}
use Rattle.std.proofs.lemmas.List.Sorted.{All-permutation, IsPermutation-keeps, IsPermutation-sym}
use Rattle.ra_stamp.specs.declared.message.Message.{Message}
use Rattle.ra_frame.specs.declared.frame.Frame.{Frame}
use Rattle.ra_book.specs.declared.book.event.BookEvent.{BookEvent}
use Rattle.ra_book.specs.declared.book.event.BookKind.{BookKind}
use Rattle.ra_book.specs.declared.book.event.BookKind.TheVariants.{Ask, Leave, Cancel, Forget, Receive}
use Rattle.ra_book.specs.Book.{BookState}
use Rattle.ra_book.specs.Settled.{HasTwice, HasUnsent, WasSent, all_received, frames_in, received_among}
use Rattle.ra_book_text.specs.declared.text_settling.came_frames.Came.{Came}
use Rattle.ra_book_text.specs.Texts.{Said, came_by, came_from, came_in, said_by}
use Rattle.ra_book_text.specs.Texts.Said.{Opens, Happens}
use Rattle.ra_book_text.specs.Gathering.{HasAllCome}
use Rattle.ra_book_text.specs.Verdicts.{IsFirstAgain, IsFirstUnsent, messages_of}
use Rattle.ra_book_text.proofs.Last.{pairs_at_last}
use Rattle.ra_book_text.proofs.ListPieces.{AreDifferent, all_in_each, all_of_each, all_right, never_twice, pairs_first, pairs_joined, pairs_left, pairs_rest, pairs_right}

-- ---- Frames that come

abbrev frames_said : List Said → List Frame
frames_said [] = []
frames_said (Opens node nodes start ∷ said) = frames_said said
frames_said (Happens kind ∷ said) = frames_in kind ++ frames_said said

one_comes : (number : ℕ) (kind : BookKind) → map (λ one. one.frame) (came_by number kind) ≡ frames_in kind
one_comes number (Ask client name mode) = refl
one_comes number (Leave client name) = refl
one_comes number (Cancel client name) = refl
one_comes number Forget = refl
one_comes number (Receive frame) = refl

frames_come : (number : ℕ) (said : List Said) → map (λ one. one.frame) (came_from number said) ≡ frames_said said
frames_come number [] = refl
frames_come number (Opens node nodes start ∷ said) = frames_come (number + 1) said
frames_come number (Happens kind ∷ said) =
    map-append (λ (one : Came). one.frame) (came_by number kind) (came_from (number + 1) said)
    ∙ (λ i. one_comes number kind i ++ frames_come (number + 1) said i)

events_come : (events : List BookEvent) (said : List Said) → frames_said (map (λ event. Happens event.kind) events ++ said) ≡ received_among events ++ frames_said said
events_come [] said = refl
events_come (e ∷ events) said =
    ap (λ (fs : List Frame). frames_in e.kind ++ fs) (events_come events said) ∙ sym (append_assoc (frames_in e.kind) (received_among events) (frames_said said))

books_come : (books : List BookState) → frames_said (flat_map said_by books) ≡ all_received books
books_come [] = refl
books_come (b ∷ books) = events_come b.events (flat_map said_by books) ∙ ap (λ (fs : List Frame). received_among b.events ++ fs) (books_come books)

all_come : (books : List BookState) → map (λ one. one.frame) (came_in books) ≡ all_received books
all_come books = frames_come 1 (flat_map said_by books) ∙ books_come books

-- ---- What was not sent

pub all_came_sent : (books ordered : List BookState) → IsPermutation books ordered → (HasUnsent ordered → ⊥) → (number : ℕ)
    → IsFirstUnsent ordered (came_in books) number → ⊥
all_came_sent books ordered same sent number h =
    let each = All-permutation (λ (b : BookState). All (Contains (all_received ordered)) (received_among b.events)) ordered books (IsPermutation-sym books ordered same)
    (all_in_each (Contains (all_received ordered)) (λ (b : BookState). received_among b.events) ordered (All-contains_itself (all_received ordered))) in
    let all = all_of_each (Contains (all_received ordered)) (λ (b : BookState). received_among b.events) books each in
    let frames = subst (All (Contains (all_received ordered))) (sym (ap (map (λ (one : Came). one.frame)) (sym h.came_is) ∙ all_come books)) all in
    let here = all_right (Contains (all_received ordered)) (map (λ (one : Came). one.frame) h.before) (map (λ (one : Came). one.frame) (h.this ∷ h.after))
    (subst (All (Contains (all_received ordered))) (map-append (λ (one : Came). one.frame) h.before (h.this ∷ h.after)) frames) in
    let (k, low, at) = All-head (Contains (all_received ordered)) h.this.frame (map (λ (one : Came). one.frame) h.after) here in
    sent (k, h.this.frame, low, at, h.unsent)

-- what came by the lines is all that came to the books
pub all_came : (books ordered : List BookState) → IsPermutation books ordered → HasAllCome ordered (came_in books)
all_came books ordered same =
    let each = All-permutation (λ (b : BookState). All (Contains (all_received books)) (received_among b.events)) books ordered same
    (all_in_each (Contains (all_received books)) (λ (b : BookState). received_among b.events) books (All-contains_itself (all_received books))) in
    let all = all_of_each (Contains (all_received books)) (λ (b : BookState). received_among b.events) ordered each in
    subst (λ (fs : List Frame). All (Contains fs) (all_received ordered)) (sym (all_come books)) all

-- if all that came was sent, no book has a frame that was not sent
pub none_unsent : (books : List BookState) (came : List Came) → HasAllCome books came → All (λ one. WasSent books one.frame) came → HasUnsent books → ⊥
none_unsent books came all sent (k, frame, low, at, unsent) =
    let (j, within, is) = subst (Contains (map (λ (one : Came). one.frame) came)) at (all k frame low) in
    let each = All-map (WasSent books) (λ (one : Came). one.frame) came sent in
    unsent (subst (WasSent books) is (each j frame within))

-- ---- Pairs, when places change

-- the new place of an element after a and b were swapped
moved_place : {X : Type 0} (f g : ℕ → X) (a b n : ℕ) → Swapped f g a b → a < n → b < n → (p : ℕ) → p < n
    → (s : ℕ) × (s < n) × (g p ≡ f s) × (p ≡ a → s ≡ b) × (p ≡ b → s ≡ a) × ((p ≡ a → ⊥) → (p ≡ b → ⊥) → s ≡ p)
moved_place f g a b n sw la lb p lp =
    elim (cases_eq p a) [
      | inl ea ↦ (b, lb, ap g ea ∙ sw.0, (λ _. refl), (λ eb. omega (arith, ea, eb)), (λ u v. absurd (u ea)))
      | inr na ↦
          elim (cases_eq p b) [
            | inl eb ↦ (a, la, ap g eb ∙ sw.1, (λ e. absurd (na e)), (λ _. refl), (λ u v. absurd (v eb)))
            | inr nb ↦ (p, lp, sw.2 p na nb, (λ e. absurd (na e)), (λ e. absurd (nb e)), (λ u v. refl))
          ]
    ]

places_differ : (a b i j s t : ℕ) → (i ≡ j → ⊥) → (i ≡ a → s ≡ b) → (i ≡ b → s ≡ a) → ((i ≡ a → ⊥) → (i ≡ b → ⊥) → s ≡ i) → (j ≡ a → t ≡ b) → (j ≡ b → t ≡ a)
    → ((j ≡ a → ⊥) → (j ≡ b → ⊥) → t ≡ j) → s ≡ t → ⊥
places_differ a b i j s t ne p q r x y z e = grind arith

module _ {X : Type 0} (R : X → X → Type 0) (turned : (x y : X) → R x y → R y x) where
  at_places : (xs : List X) (s t : ℕ) (d : X) → AllPairs R xs → (s ≡ t → ⊥) → s < length xs → t < length xs → R (get_or xs s d) (get_or xs t d)
  at_places xs s t d pairs other low within =
      elim (cases_lt s t) [
        | inl less ↦ pairs s t d less within
        | inr not ↦ turned (get_or xs t d) (get_or xs s d) (pairs t s d (omega (arith, other, not)) low)
      ]

  pairs_swapped : (xs : List X) (a b : ℕ) → a < length xs → b < length xs → AllPairs R xs → AllPairs R (swap xs a b)
  pairs_swapped xs a b la lb pairs i j d below within =
      let long = length-swap xs a b in
      let sw = swapped_from_swap xs (swap xs a b) a b d la lb refl in
      let u = moved_place (λ k. get_or xs k d) (λ k. get_or (swap xs a b) k d) a b (length xs) sw la lb i (omega (arith, below, within, long)) in
      let v = moved_place (λ k. get_or xs k d) (λ k. get_or (swap xs a b) k d) a b (length xs) sw la lb j (omega (arith, within, long)) in
      let apart = places_differ a b i j u.0 v.0 (λ e. omega (arith, e, below)) u.3 u.4 u.5 v.3 v.4 v.5 in
      subst (λ (t : X × X). R t.0 t.1) (λ k. (sym u.2 k, sym v.2 k)) (at_places xs u.0 v.0 d pairs apart u.1 v.1)

  pub pairs_permutation : (xs ys : List X) → IsPermutation xs ys → AllPairs R xs → AllPairs R ys
  pairs_permutation xs ys same pairs = IsPermutation-keeps xs (AllPairs R) pairs (λ l i j p q h. pairs_swapped l i j p q h) ys same

-- ---- Lists that are different, part by part

-- none of one list is in the other
abbrev Apart : {X : Type 0} → List X → List X → Type 0
Apart vs bs = All (λ a. All (λ b. a ≢ b) bs) vs

apart_turned : {X : Type 0} (vs bs : List X) → Apart vs bs → Apart bs vs
apart_turned vs bs apart j e within i d low same =
    apart i d low j e within (sym same)

module _ {X : Type 0} where
  across : (vs bs : List X) → AreDifferent (vs ++ bs) → Apart vs bs
  across [] bs pairs = All-nil (λ a. All (λ b. a ≢ b) bs)
  across (a ∷ vs) bs pairs =
      All-cons (λ a. All (λ b. a ≢ b) bs) a vs (all_right (λ b. a ≢ b) vs bs (pairs_first (λ a b. a ≢ b) a (vs ++ bs) pairs))
      (across vs bs (pairs_rest (λ a b. a ≢ b) a (vs ++ bs) pairs))

module _ {X Y : Type 0} (g : X → List Y) where
  parts : (xs : List X) → AreDifferent (flat_map g xs) → All (λ x. AreDifferent (g x)) xs × AllPairs (λ x y. Apart (g x) (g y)) xs
  parts [] pairs = (All-nil (λ x. AreDifferent (g x)), λ i j d below within. absurd (omega (arith, within)))
  parts (x ∷ xs) pairs =
      let rest = parts xs (pairs_right (λ a b. a ≢ b) (g x) (flat_map g xs) pairs) in
      let others = across (g x) (flat_map g xs) pairs in (
        All-cons (λ x. AreDifferent (g x)) x xs (pairs_left (λ a b. a ≢ b) (g x) (flat_map g xs) pairs) rest.0,
        AllPairs-cons (λ x y. Apart (g x) (g y)) x xs (λ k d low i e lo. all_in_each (λ b. get_or (g x) i e ≢ b) g xs (others i e lo) k d low) rest.1,
      )

  joined : (xs : List X) → All (λ x. AreDifferent (g x)) xs → AllPairs (λ x y. Apart (g x) (g y)) xs → AreDifferent (flat_map g xs)
  joined [] each pairs = λ i j d below within. absurd (omega (arith, within))
  joined (x ∷ xs) each pairs =
      pairs_joined (λ a b. a ≢ b) (g x) (flat_map g xs) (All-head (λ x. AreDifferent (g x)) x xs each)
      (joined xs (All-tail (λ x. AreDifferent (g x)) x xs each) (pairs_rest (λ x y. Apart (g x) (g y)) x xs pairs))
      (λ i e lo. all_of_each (λ b. get_or (g x) i e ≢ b) g xs (λ k d low. pairs_first (λ x y. Apart (g x) (g y)) x xs pairs k d low i e lo))

  in_any_order : (xs ys : List X) → IsPermutation xs ys → AreDifferent (flat_map g xs) → AreDifferent (flat_map g ys)
  in_any_order xs ys same pairs =
      let of = parts xs pairs in
      joined ys (All-permutation (λ x. AreDifferent (g x)) xs ys same of.0)
      (pairs_permutation (λ x y. Apart (g x) (g y)) (λ x y apart. apart_turned (g x) (g y) apart) xs ys same of.1)

-- ---- A message that comes again

twice_apart : {X : Type 0} (xs ys : List X) (x : X) → AreDifferent (xs ++ x ∷ ys) → Contains xs x → ⊥
twice_apart xs ys x pairs (k, low, at) =
    pairs_at_last (λ a b. a ≢ b) xs x (pairs_left (λ a b. a ≢ b) (xs ++ x ∷ []) ys (subst AreDifferent (sym (append_assoc xs (x ∷ []) ys)) pairs)) k x low at

pub not_before : (before more : List Came) (this : Came) → AllPairs (λ a b. a ≢ b) (messages_of (before ++ this ∷ more))
    → Contains (messages_of before) this.frame.message → ⊥
not_before before more this pairs again =
    twice_apart (messages_of before) (messages_of more) this.frame.message
    (subst AreDifferent (map-append (λ (one : Came). one.frame.message) before (this ∷ more)) pairs) again

-- the messages that came to a book
abbrev messages_to : BookState → List Message
messages_to book = map (λ f. f.message) (received_among book.events)

messages_to_all : (books : List BookState) → map (λ f. f.message) (all_received books) ≡ flat_map messages_to books
messages_to_all [] = refl
messages_to_all (b ∷ books) =
    map-append (λ (f : Frame). f.message) (received_among b.events) (all_received books)
    ∙ ap (λ (ms : List Message). messages_to b ++ ms) (messages_to_all books)

messages_of_frames : (came : List Came) → messages_of came ≡ map (λ f. f.message) (map (λ one. one.frame) came)
messages_of_frames [] = refl
messages_of_frames (one ∷ came) = ap (λ (ms : List Message). one.frame.message ∷ ms) (messages_of_frames came)

messages_in : (books : List BookState) → messages_of (came_in books) ≡ flat_map messages_to books
messages_in books = messages_of_frames (came_in books) ∙ ap (map (λ (f : Frame). f.message)) (all_come books) ∙ messages_to_all books

pub none_again : (books ordered : List BookState) → IsPermutation books ordered → (HasTwice ordered → ⊥) → (number : ℕ) → IsFirstAgain (came_in books) number → ⊥
none_again books ordered same once number h =
    let different = subst AreDifferent (messages_to_all ordered) (never_twice (map (λ f. f.message) (all_received ordered)) once) in
    let came = in_any_order messages_to ordered books (IsPermutation-sym books ordered same) different in
    let messages = subst AreDifferent (sym (messages_in books)) came in
    not_before h.before h.after h.this (subst (λ (cs : List Came). AreDifferent (messages_of cs)) h.came_is messages) h.again
