-- Books of hosts that are linked: their pairs fit.
use Rattle.std.proofs.Common.{◌≡◌, ◌≢◌, ℕ, suc, ◌≤◌, List, [], ◌∷◌, ◌++◌, length, get_or, take, drop, refl, sym, ap, ◌∙◌, subst, append_assoc, arith}
use Rattle.std.specs.Prelude.{All}
use Rattle.std.proofs.lemmas.List.{length-append, length-take, take-append-drop}
use Rattle.std.proofs.lemmas.List.Elements.{All-map}
use Rattle.ra_frame.specs.declared.frame.Frame.{Frame}
use Rattle.ra_frame.specs.FrameText.{IsFrameText}
use Rattle.ra_link.specs.Pair as pair
use Rattle.ra_world.proofs.Lists.{head_of, tail_of}
use Rattle.ra_book.specs.Book.{BookState, HasHistory}
use Rattle.ra_book.specs.Cut.{first_of, cut_books, NoMoreCame}
use Rattle.ra_host.specs.Linked.{AreTexts, IsLinked, AreLinked}
use Rattle.ra_book.specs.Pairs.{AreFirstOf, PairsFit, sent_to, come_from}
use Rattle.ra_book.specs.Settled.{IsCluster}

pub texts_long : (texts : List (List ℕ)) (frames : List Frame) → AreTexts texts frames → length texts ≡ length frames
texts_long [] [] are = refl
texts_long [] (f ∷ frames) are = absurd are
texts_long (t ∷ texts) [] are = absurd are
texts_long (t ∷ texts) (f ∷ frames) are = ap suc (texts_long texts frames are.1)

module _ (one : (bytes : List ℕ) (a b : Frame) → IsFrameText bytes a → IsFrameText bytes b → a ≡ b)
    (taken_first : (events : List (pair.Who × pair.Event)) (who : pair.Who)
    → pair.IsPrefixOf (pair.this who (pair.after events)).taken (take (pair.other who (pair.after events)).sent_kept (pair.other who (pair.after events)).sent))
    (kept_first : (events : List (pair.Who × pair.Event)) (who : pair.Who)
    → pair.IsPrefixOf (take (pair.this who (pair.after events)).taken_kept (pair.this who (pair.after events)).taken)
    (take (pair.other who (pair.after events)).sent_kept (pair.other who (pair.after events)).sent))
    (come_first : (count node : ℕ) (book : BookState) → AreFirstOf (come_from node (first_of count book)) (come_from node book)) where
  -- if texts are the first of others, so are their frames
  first_frames : (texts : List (List ℕ)) (frames : List Frame) (all more : List (List ℕ)) (those : List Frame) → AreTexts texts frames → AreTexts all those → all ≡ texts ++ more → AreFirstOf frames those
  first_frames [] [] all more those are every is = (those, refl)
  first_frames [] (f ∷ frames) all more those are every is = absurd are
  first_frames (t ∷ texts) [] all more those are every is = absurd are
  first_frames (t ∷ texts) (f ∷ frames) [] more those are every is = absurd (cc)
  first_frames (t ∷ texts) (f ∷ frames) (a ∷ all) more [] are every is = absurd every
  first_frames (t ∷ texts) (f ∷ frames) (a ∷ all) more (g ∷ those) are every is =
      let rest = first_frames texts frames all more those are.1 every.1 (tail_of is) in
      let same : g ≡ f = one t g f (subst (λ (x : List ℕ). IsFrameText x g) (head_of is) every.0) are.0 in
      (rest.0, λ i. same i ∷ rest.1 i)

  module _ (at : BookState) (at_kept : ℕ) (other : BookState) (other_kept : ℕ) (linked : IsLinked at at_kept other other_kept) where
    abbrev here : pair.Host
    here = pair.this linked.who (pair.after linked.events)

    abbrev there : pair.Host
    there = pair.other linked.who (pair.after linked.events)

    in_order : AreFirstOf (come_from other.me at) (sent_to at.me other)
    in_order =
        let first = taken_first linked.events linked.who in
        first_frames here.taken (come_from other.me at) there.sent (first.0 ++ drop there.sent_kept there.sent) (sent_to at.me other) linked.taken linked.sent
        (sym (take-append-drop there.sent_kept there.sent) ∙ ap (λ (fs : List (List ℕ)). fs ++ drop there.sent_kept there.sent) (sym first.1)
        ∙ append_assoc here.taken first.0 (drop there.sent_kept there.sent))

    -- no more is on this disk than on the other one
    no_more : length (come_from other.me (first_of at_kept at)) ≤ length (sent_to at.me (first_of other_kept other))
    no_more =
        let first = kept_first linked.events linked.who in
        let parts = ap length first.1 in
        let both = length-append (take here.taken_kept here.taken) first.0 in
        let mine = length-take here.taken_kept here.taken in
        let others = length-take there.sent_kept there.sent in
        let long = texts_long here.taken (come_from other.me at) linked.taken in
        let came = come_first at_kept other.me at in
        let whole = ap length came.1 in
        let split = length-append (come_from other.me (first_of at_kept at)) came.0 in
        omega (arith, parts, both, mine, others, long, whole, split, linked.taken_kept, linked.sent_kept)

  module _ (kept : ℕ → ℕ) (books : List BookState) (cluster : IsCluster books) (histories : All HasHistory books) (are : AreLinked kept books) where
    pub books_fit : PairsFit books
    books_fit =
        record {
          in_order = λ k d low l e within differ.
              let a = get_or books k d in
              let o = get_or books l e in
              in_order a (kept a.me) o (kept o.me) (are.linked k d low l e within differ);
          none_lost = are.none_lost;
        }

    pub disks_fit :
        ((counts : ℕ → ℕ) (books : List BookState) → IsCluster books → All HasHistory books → PairsFit books
        → NoMoreCame (cut_books counts books) → PairsFit (cut_books counts books))
        → PairsFit (cut_books kept books)
    disks_fit cut_pairs =
        let cut : BookState → BookState = λ b. first_of (kept b.me) b in
        cut_pairs kept books cluster histories books_fit
        (All-map (λ a. All (λ o. a.me ≢ o.me → length (come_from o.me a) ≤ length (sent_to a.me o)) (cut_books kept books)) cut books
        (λ k d low.
        let a = get_or books k d in
        All-map (λ o. a.me ≢ o.me → length (come_from o.me (cut a)) ≤ length (sent_to a.me o)) cut books
        (λ l e within differ. let o = get_or books l e in no_more a (kept a.me) o (kept o.me) (are.linked k d low l e within differ))))
