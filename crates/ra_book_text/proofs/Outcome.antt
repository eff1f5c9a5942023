-- The outcome of the books that were gathered from a text.
use Rattle.std.proofs.Common.{◌≡◌, ℕ, Bool, true, List, [], ◌∷◌, length, length-append, Result, Ok, Err, inr, ap, subst, sym, ◌∙◌, arith}
use Rattle.std.proofs.lemmas.Bool.{false≢true}
use Rattle.std.specs.Prelude.{All, IsErrAnd, IsErrOf, MatchResult}
use Rattle.std.specs.List.Sorted.{IsNonDecreasingBy, IsPermutation}
use Rattle.std.proofs.lemmas.List.Sorted.{All-permutation}
use Rattle.ra_book.specs.Book.{BookState}
use Rattle.ra_book.specs.Settled.{HasUnsent, IsCluster}
use Rattle.ra_book_text.specs.declared.text_settling.came_frames.Came.{Came}
use Rattle.ra_book_text.specs.declared.text_settling.settle_error.SettleTextError.{SettleTextError}
use Rattle.ra_book_text.specs.declared.text_settling.settle_error.SettleTextError.TheVariants as fault
use Rattle.ra_book_text.specs.declared.text_settling.settle_error.TextCause.TheVariants as cause
use Rattle.ra_book_text.specs.declared.text_settling.gathering.Gathered.{Gathered}
use Rattle.ra_book_text.specs.declared.text_settling.SettledText.{SettledText}
use Rattle.ra_book_text.specs.Texts.{AreWhole, IsRead}
use Rattle.ra_book_text.specs.Gathering.{HasGathered, IsGathered, IsMadeOf, IsUnfit, books_of}
use Rattle.ra_book_text.specs.Verdicts.{IsFirstAgain, IsFirstUnsent, IsMissing, IsSettledBy, IsSettledText, IsUnsettled, IsWrong}
use Rattle.ra_book_text.proofs.Order.{not_cluster}

module _ (g : Gathered) (books : List BookState) (came : List Came) (made : IsMadeOf g books came) where
  module _ (ordered : List BookState) (same : IsPermutation books ordered) where
    pub gathered_same : IsPermutation (books_of g) ordered
    gathered_same = subst (λ (bs : List BookState). IsPermutation bs ordered) made.books_are same

    pub whole_of : (lines : List (List ℕ)) → IsGathered lines g → IsCluster ordered → AreWhole lines (books_of g) ordered
    whole_of lines is cluster = record { right = is.right; same = gathered_same; cluster = cluster }

    pub read_of : (lines : List (List ℕ)) → IsGathered lines g → All IsRead ordered
    read_of lines is = All-permutation IsRead (books_of g) ordered gathered_same is.right.each

    -- if they are not the books of a cluster, one is missing
    pub lacks_one : (lines : List (List ℕ)) → IsGathered lines g → IsNonDecreasingBy (λ book. book.me) ordered → (IsCluster ordered → ⊥) → IsMissing books
    lacks_one lines is sorted not =
        subst IsMissing (sym made.books_are) (not_cluster lines g.earlier.items g.last is.right ordered gathered_same sorted not)

  -- a book is missing
  pub lacks : (text : List ℕ) (next : ℕ) → HasGathered text g next → IsMissing books → (repeats : Bool) → IsWrong repeats text next cause.Books
  lacks text next h missing repeats = inr (
    h.lines,
    books_of g,
    h.is_text,
    h.gathered.right,
    (λ none. omega (arith, ap length none, length-append g.earlier.items (g.last ∷ []))),
    h.next_is,
    subst IsMissing made.books_are missing,
  )

  module _ (text : List ℕ) (next : ℕ) (h : HasGathered text g next) (ordered : List BookState) (same : IsPermutation books ordered) (cluster : IsCluster ordered) (repeats : Bool)
    where
      unfit : (why : SettleTextError) → IsUnfit repeats ordered came why → IsUnsettled repeats text why
      unfit fault.Memory u = tt
      unfit (fault.Invalid number cause.Line) u = absurd u
      unfit (fault.Invalid number cause.Books) u = absurd u
      unfit (fault.Invalid number cause.Refused) u = absurd u
      unfit (fault.Invalid number cause.NotSent) u = (
        h.lines,
        books_of g,
        ordered,
        h.is_text,
        whole_of ordered same h.lines h.gathered cluster,
        subst (λ (cs : List Came). IsFirstUnsent ordered cs number) (made.came_are ∙ h.gathered.came_is) u,
      )
      unfit (fault.Invalid number cause.Twice) u = (
        h.lines,
        books_of g,
        ordered,
        h.is_text,
        whole_of ordered same h.lines h.gathered cluster,
        u.0,
        u.1,
        subst (λ (cs : List Came). IsFirstAgain cs number) (made.came_are ∙ h.gathered.came_is) u.2,
      )

      pub result_of : (r : Result SettledText SettleTextError) → MatchResult r (IsSettledBy repeats ordered) (IsUnfit repeats ordered came)
          → MatchResult r (IsSettledText repeats text) (IsUnsettled repeats text)
      result_of (Ok settled) by = record {
        lines = h.lines;
        books = books_of g;
        ordered = ordered;
        is_text = h.is_text;
        whole = whole_of ordered same h.lines h.gathered cluster;
        settled_by = by;
      }
      result_of (Err why) u = unfit why u

-- whole books are refused neither because one is missing, nor for lack of memory if a frame came that was not sent
module _ (repeats : Bool) (ordered : List BookState) (came : List Came) where
  pub no_books_fault : (next : ℕ) (r : Result SettledText SettleTextError) → MatchResult r (IsSettledBy repeats ordered) (IsUnfit repeats ordered came)
      → IsErrOf r (fault.Invalid next cause.Books) → ⊥
  no_books_fault next (Ok settled) h is = absurd cc
  no_books_fault next (Err why) h is = let same : why ≡ fault.Invalid next cause.Books = cc in subst (IsUnfit repeats ordered came) same h

  pub no_memory_fault : (r : Result SettledText SettleTextError) → MatchResult r (IsSettledBy repeats ordered) (IsUnfit repeats ordered came)
      → IsErrOf r fault.Memory → HasUnsent ordered → ⊥
  no_memory_fault (Ok settled) h is = absurd cc
  no_memory_fault (Err why) h is = let same : why ≡ fault.Memory = cc in subst (IsUnfit repeats ordered came) same h

-- for lack of memory a text may stay unsettled
pub lacks_memory : {T : Type 0} (P : T → Type 0) (text : List ℕ) (r : Result T SettleTextError) → IsErrAnd r (λ why. why ≡ fault.Memory)
    → MatchResult r P (IsUnsettled true text)
lacks_memory P text (Ok v) h = absurd h
lacks_memory P text (Err why) h = subst (IsUnsettled true text) (sym h) tt

-- a text that is not read is not read whether messages may come again or not
pub unread : (repeats : Bool) (text : List ℕ) (why : SettleTextError) → IsUnsettled true text why → IsUnsettled repeats text why
unread repeats text fault.Memory u = tt
unread repeats text (fault.Invalid number cause.Line) u = u
unread repeats text (fault.Invalid number cause.Books) u = u
unread repeats text (fault.Invalid number cause.Refused) u = u
unread repeats text (fault.Invalid number cause.NotSent) u = u
unread repeats text (fault.Invalid number cause.Twice) u = absurd (false≢true (sym u.5))

pub unread_by : {T : Type 0} (P : T → Type 0) (repeats : Bool) (text : List ℕ) (why : SettleTextError) → IsUnsettled true text why → (r : Result T SettleTextError)
    → IsErrAnd r (λ x. x ≡ why) → MatchResult r P (IsUnsettled repeats text)
unread_by P repeats text why u (Ok v) h = absurd h
unread_by P repeats text why u (Err x) h = subst (IsUnsettled repeats text) (sym h) (unread repeats text why u)
