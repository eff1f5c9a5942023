-- Books of hosts that have acknowledged all: what was sent has come.
use Rattle.std.proofs.Common.{◌≡◌, ◌≢◌, ℕ, true, List, [], ◌∷◌, ◌++◌, length, get_or, refl, sym, ap, ◌∙◌, subst, arith}
use Rattle.std.specs.Prelude.{All}
use Rattle.std.proofs.lemmas.List.{append-nil, length-append}
use Rattle.std.proofs.lemmas.List.Elements.{All-map}
use Rattle.ra_frame.specs.declared.frame.Frame.{Frame}
use Rattle.ra_frame.specs.FrameText.{IsFrameText}
use Rattle.ra_link.specs.Pair as pair
use Rattle.ra_book.specs.Book.{BookState, IsWhole, HasHistory}
use Rattle.ra_book.specs.Cut.{first_of, cut_books}
use Rattle.ra_book.specs.Pairs.{AreFirstOf, AllHasCome, sent_to, come_from}
use Rattle.ra_book.specs.Settled.{IsCluster}
use Rattle.ra_host.specs.Linked.{AreTexts, IsLinked, IsAcknowledged, AreLinked, AreAcknowledged}
use Rattle.ra_host.proofs.LinkedBooks.{texts_long}

-- the first part of a list that is as long as the list
pub all_of_it : (first all : List Frame) → AreFirstOf first all → length first ≡ length all → first ≡ all
all_of_it first all (more, is) long = none more (omega (arith, ap length is, length-append first more, long)) is
  where
    none : (more : List Frame) → length more ≡ 0 → all ≡ first ++ more → first ≡ all
    none [] empty is = sym (is ∙ append-nil first)
    none (f ∷ more) empty is = absurd (omega (arith, empty))

pub still_linked : (kept : ℕ → ℕ) (books : List BookState) → AreAcknowledged kept books → AreLinked kept books
still_linked kept books are = record { linked = λ k d low l e within differ. (are.linked k d low l e within differ).0; none_lost = are.none_lost }

abbrev Finished : pair.Host → pair.Host → Type 0
Finished receiver sender = (receiver.taken ≡ sender.sent) × (receiver.taken_kept ≡ length receiver.taken) × (sender.sent_kept ≡ length sender.sent)

module _ (one : (bytes : List ℕ) (a b : Frame) → IsFrameText bytes a → IsFrameText bytes b → a ≡ b)
    (acknowledged : (events : List (pair.Who × pair.Event)) (who : pair.Who) → (pair.this who (pair.after events)).up ≡ true → (pair.this who (pair.after events)).link.ready ≡ true
    → (pair.this who (pair.after events)).link.acknowledged ≡ (pair.this who (pair.after events)).link.made
    → Finished (pair.other who (pair.after events)) (pair.this who (pair.after events)))
    (come_first : (count node : ℕ) (book : BookState) → AreFirstOf (come_from node (first_of count book)) (come_from node book))
    (sent_first : (count node : ℕ) (book : BookState) → IsWhole book → HasHistory book → AreFirstOf (sent_to node (first_of count book)) (sent_to node book)) where
  -- the same law, of the other host
  finished : (events : List (pair.Who × pair.Event)) (who : pair.Who) → (pair.other who (pair.after events)).up ≡ true → (pair.other who (pair.after events)).link.ready ≡ true
      → (pair.other who (pair.after events)).link.acknowledged ≡ (pair.other who (pair.after events)).link.made
      → Finished (pair.this who (pair.after events)) (pair.other who (pair.after events))
  finished events pair.Who.One = acknowledged events pair.Who.Two
  finished events pair.Who.Two = acknowledged events pair.Who.One

  same_frames : (texts : List (List ℕ)) (xs ys : List Frame) → AreTexts texts xs → AreTexts texts ys → xs ≡ ys
  same_frames [] [] [] left right = refl
  same_frames [] [] (y ∷ ys) left right = absurd right
  same_frames [] (x ∷ xs) ys left right = absurd left
  same_frames (t ∷ texts) [] ys left right = absurd left
  same_frames (t ∷ texts) (x ∷ xs) [] left right = absurd right
  same_frames (t ∷ texts) (x ∷ xs) (y ∷ ys) left right =
      let rest = same_frames texts xs ys left.1 right.1 in
      λ i. one t x y left.0 right.0 i ∷ rest i

  module _ (at : BookState) (at_kept : ℕ) (other : BookState) (other_kept : ℕ) (linked : IsLinked at at_kept other other_kept) (is : IsAcknowledged linked) where
    abbrev here : pair.Host
    here = pair.this linked.who (pair.after linked.events)

    abbrev there : pair.Host
    there = pair.other linked.who (pair.after linked.events)

    done : Finished here there
    done = finished linked.events linked.who is.0 is.1 is.2

    come : come_from other.me at ≡ sent_to at.me other
    come = same_frames here.taken (come_from other.me at) (sent_to at.me other) linked.taken (subst (λ (ts : List (List ℕ)). AreTexts ts (sent_to at.me other)) (sym done.0) linked.sent)

    come_on_disk : come_from other.me (first_of at_kept at) ≡ come_from other.me at
    come_on_disk =
        all_of_it (come_from other.me (first_of at_kept at)) (come_from other.me at) (come_first at_kept other.me at)
        (sym linked.taken_kept ∙ done.1 ∙ texts_long here.taken (come_from other.me at) linked.taken)

    sent_on_disk : AreFirstOf (sent_to at.me (first_of other_kept other)) (sent_to at.me other) → sent_to at.me (first_of other_kept other) ≡ sent_to at.me other
    sent_on_disk first =
        all_of_it (sent_to at.me (first_of other_kept other)) (sent_to at.me other) first
        (sym linked.sent_kept ∙ done.2 ∙ texts_long there.sent (sent_to at.me other) linked.sent)

  module _ (kept : ℕ → ℕ) (books : List BookState) (are : AreAcknowledged kept books) where
    pub books_come : AllHasCome books
    books_come k d low l e within differ =
        let a = get_or books k d in
        let o = get_or books l e in
        let it = are.linked k d low l e within differ in
        come a (kept a.me) o (kept o.me) it.0 it.1

    pub disks_come : IsCluster books → All HasHistory books → AllHasCome (cut_books kept books)
    disks_come cluster histories =
        let cut : BookState → BookState = λ b. first_of (kept b.me) b in
        All-map (λ a. All (λ o. a.me ≢ o.me → come_from o.me a ≡ sent_to a.me o) (cut_books kept books)) cut books
        (λ k d low.
        let a = get_or books k d in
        All-map (λ o. a.me ≢ o.me → come_from o.me (cut a) ≡ sent_to a.me o) cut books
        (λ l e within differ.
        let o = get_or books l e in
        let it = are.linked k d low l e within differ in
        let sent = sent_first (kept o.me) a.me o (cluster.whole l e within) (histories l e within) in
        come_on_disk a (kept a.me) o (kept o.me) it.0 it.1
        ∙ come a (kept a.me) o (kept o.me) it.0 it.1
        ∙ sym (sent_on_disk a (kept a.me) o (kept o.me) it.0 it.1 sent)))
