-- A text of books has one verdict.
use Rattle.std.proofs.Common.{◌≡◌, ◌≢◌, ◌⊎◌, ℕ, ◌+◌, ◌-◌, ◌<◌, ◌≤◌, Bool, true, false, List, [], ◌∷◌, ◌++◌, append_assoc, append-nil, length, get_or, inl, inr, refl, sym, ap, subst, ◌∙◌, arith}
use Rattle.std.specs.Prelude.{All, AllPairs}
use Rattle.std.specs.List.Sorted.{IsPermutation}
use Rattle.std.proofs.lemmas.List.{ext_get_or, get_or_default, same_from_push}
use Rattle.std.proofs.lemmas.List.Elements.{All-head, Contains-get_or}
use Rattle.std.proofs.lemmas.List.Sorted.{All-permutation, Contains-permutation, IsPermutation-sym, IsPermutation-trans, length_permutation}
use Rattle.ra_book.specs.Book.{BookState}
use Rattle.ra_book.specs.Settled.{HasTwice, HasUnsent, IsCluster, WasSent}
use Rattle.ra_book.proofs.Merging.{number_at}
use Rattle.ra_book_text.specs.Book.{lines_text}
use Rattle.ra_book_text.specs.Input.{HasNoFeed}
use Rattle.ra_book_text.specs.declared.text_settling.came_frames.Came.{Came}
use Rattle.ra_book_text.specs.declared.text_settling.settle_error.TextCause.{TextCause}
use Rattle.ra_book_text.specs.declared.text_settling.settle_error.TextCause.TheVariants as cause
use Rattle.ra_book_text.specs.Texts.{AreRight, IsText, came_in}
use Rattle.ra_book_text.specs.declared.next_line.book_version.BookVersion.{BookVersion}
use Rattle.ra_book_text.specs.Verdicts.{FitBy, HasFittingBooks, IsFirstAgain, IsFirstUnsent, IsMissing, IsWrong, IsWrongAt, IsWrongLine, messages_of}
use Rattle.ra_book_text.proofs.OneCame.{all_came_sent, none_again, not_before}
use Rattle.ra_book_text.proofs.ListPieces.{all_right as all_after}
use Rattle.ra_book_text.proofs.OneReading.{either_first, begin_in, head_of, no_line, tail_of}

-- what the proofs rest on
pub record VerdictLaws : Type 0 where
  pub lines : (text : List ℕ) (lines others : List (List ℕ)) → IsText text lines → IsText text others → lines ≡ others
  pub books : (lines : List (List ℕ)) (books others : List BookState) → AreRight lines books → AreRight lines others → books ≡ others
  pub version : (lines : List (List ℕ)) (books others : List BookState) (is : AreRight lines books) (other : AreRight lines others) → is.version ≡ other.version
  pub right : (before after : List (List ℕ)) (line : List ℕ) (why : TextCause) (earlier books : List BookState) (is : AreRight before earlier)
      → IsWrongLine is.version earlier line why → AreRight (before ++ line ∷ after) books → ⊥
  pub apart : (version : BookVersion) (books : List BookState) (line : List ℕ) (a b : TextCause) → IsWrongLine version books line a → IsWrongLine version books line b → a ≡ b

-- ---- Lists

-- the last item, or what comes after a part
last_in : {X : Type 0} (xs more ys : List X) (y : X) → ys ++ y ∷ [] ≡ xs ++ more → (more ≡ []) ⊎ ((rest : List X) × (ys ≡ xs ++ rest))
last_in [] more ys y is = inr (ys, refl)
last_in (x ∷ []) more [] y is = inl (sym (tail_of is))
last_in (x ∷ x' ∷ xs) more [] y is = absurd cc
last_in (x ∷ xs) more (z ∷ ys) y is =
    let first : z ≡ x = head_of is in
    elim (last_in xs more ys y (tail_of is)) [
      | inl none ↦ inl none
      | inr rest ↦ inr (rest.0, λ i. first i ∷ rest.1 i)
    ]

-- two places of a list
two_places : {X : Type 0} (xs ys vs bs : List X) (x y : X) → xs ++ x ∷ vs ≡ ys ++ y ∷ bs
    → ((xs ≡ ys) × (x ≡ y)) ⊎ (((m : List X) × (ys ≡ xs ++ x ∷ m)) ⊎ ((m : List X) × (xs ≡ ys ++ y ∷ m)))
two_places [] [] vs bs x y is = inl (refl, head_of is)
two_places [] (z ∷ ys) vs bs x y is = let first : z ≡ x = sym (head_of is) in inr (inl (ys, λ i. first i ∷ ys))
two_places (z ∷ xs) [] vs bs x y is = let first : z ≡ y = head_of is in inr (inr (xs, λ i. first i ∷ xs))
two_places (w ∷ xs) (z ∷ ys) vs bs x y is =
    let first : w ≡ z = head_of is in
    let back : z ≡ w = sym first in
    elim (two_places xs ys vs bs x y (tail_of is)) [
      | inl same ↦ inl (λ i. first i ∷ same.0 i, same.1)
      | inr (inl later) ↦ inr (inl (later.0, λ i. back i ∷ later.1 i))
      | inr (inr earlier) ↦ inr (inr (earlier.0, λ i. first i ∷ earlier.1 i))
    ]

-- ---- The order of the nodes

one_order : (books vs bs : List BookState) → IsPermutation books vs → IsPermutation books bs → IsCluster vs → IsCluster bs → vs ≡ bs
one_order books [] bs p q g h = absurd (omega (arith, g.some))
one_order books (a ∷ vs) bs p q g h = ext_get_or a (a ∷ vs) bs (length_permutation books (a ∷ vs) p ∙ sym (length_permutation books bs q)) (λ i low.
    let one = get_or (a ∷ vs) i a in
    let there = Contains-permutation (a ∷ vs) bs one
    (IsPermutation-trans (a ∷ vs) books bs (IsPermutation-sym books (a ∷ vs) p) q) (Contains-get_or (a ∷ vs) i a low) in
    let number : one.me ≡ i + 1 = number_at (a ∷ vs) g i a low in
    let other : (get_or bs there.0 one).me ≡ there.0 + 1 = number_at bs h there.0 one there.1 in
    let both : (get_or bs there.0 one).me ≡ one.me = ap (λ (b : BookState). b.me) there.2 in
    let place : there.0 ≡ i = omega (arith, number, other, both) in
    sym there.2 ∙ ap (λ k. get_or bs k one) place ∙ get_or_default bs i one a (subst (λ k. k < length bs) place there.1))

-- no book of a cluster is missing
not_missing : (books ordered : List BookState) → IsPermutation books ordered → IsCluster ordered → IsMissing books → ⊥
not_missing books ordered p cluster (inl (k, b, low, at, other)) =
    let back = IsPermutation-sym books ordered p in
    let counts = All-permutation (λ book. book.nodes ≡ length ordered) ordered books back cluster.one_count in
    let count : b.nodes ≡ length ordered = subst (λ (x : BookState). x.nodes ≡ length ordered) at (counts k b low) in
    other (count ∙ length_permutation books ordered p)
not_missing books [] p cluster (inr (node, one, none)) = absurd (omega (arith, cluster.some))
not_missing books (first ∷ ordered) p cluster (inr (node, one, none)) =
    let them = All-permutation (λ book. (node ≤ book.nodes) × (book.me ≢ node)) books (first ∷ ordered) p none in
    let low : node ≤ first.nodes = (them 0 first (omega arith)).0 in
    let count : first.nodes ≡ length (first ∷ ordered) = cluster.one_count 0 first (omega arith) in
    let place : node - 1 < length (first ∷ ordered) = omega (arith, one, low, count) in
    let me : (get_or (first ∷ ordered) (node - 1) first).me ≡ node - 1 + 1 = number_at (first ∷ ordered) cluster (node - 1) first place in
    (them (node - 1) first place).1 (omega (arith, me, one))

some_books : (books ordered : List BookState) → IsPermutation books ordered → IsCluster ordered → books ≢ []
some_books books ordered p cluster none =
    let many = length_permutation books ordered p in
    omega (arith, many, cluster.some, ap length none)

-- ---- The first of those that came

module _ (ordered : List BookState) (came : List Came) where
  unsent_once : (number other : ℕ) → IsFirstUnsent ordered came number → IsFirstUnsent ordered came other → number ≡ other
  unsent_once number other g h =
      elim (two_places g.before h.before g.after h.after g.this h.this (sym g.came_is ∙ h.came_is)) [
        | inl same ↦ g.number_is ∙ ap (λ (one : Came). one.line) same.1 ∙ sym h.number_is
        | inr (inl later) ↦ absurd (g.unsent (sent_at h.before g.before later.0 g.this later.1 h.sent))
        | inr (inr earlier) ↦ absurd (h.unsent (sent_at g.before h.before earlier.0 h.this earlier.1 g.sent))
      ]
    where
      sent_at : (all before more : List Came) (this : Came) → all ≡ before ++ this ∷ more → All (λ one. WasSent ordered one.frame) all → WasSent ordered this.frame
      sent_at all before more this is sent =
          All-head (λ (one : Came). WasSent ordered one.frame) this more
          (all_after (λ (one : Came). WasSent ordered one.frame) before (this ∷ more) (subst (All (λ (one : Came). WasSent ordered one.frame)) is sent))

  again_once : (number other : ℕ) → IsFirstAgain came number → IsFirstAgain came other → number ≡ other
  again_once number other g h =
      elim (two_places g.before h.before g.after h.after g.this h.this (sym g.came_is ∙ h.came_is)) [
        | inl same ↦ g.number_is ∙ ap (λ (one : Came). one.line) same.1 ∙ sym h.number_is
        | inr (inl later) ↦ absurd (not_before g.before later.0 g.this (subst (λ (cs : List Came). AllPairs (λ a b. a ≢ b) (messages_of cs)) later.1 h.once) g.again)
        | inr (inr earlier) ↦ absurd (not_before h.before earlier.0 h.this (subst (λ (cs : List Came). AllPairs (λ a b. a ≢ b) (messages_of cs)) earlier.1 g.once) h.again)
      ]

-- ---- What is wrong

-- what is wrong with all lines of these books, if no line is
abbrev WrongBooks : Bool → List (List ℕ) → List BookState → ℕ → TextCause → Type 0
WrongBooks repeats lines books number why =
    ((why ≡ cause.Books) × (number ≡ length lines + 1) × IsMissing books)
    ⊎ ((ordered : List BookState) × IsPermutation books ordered × IsCluster ordered
    × (((why ≡ cause.NotSent) × IsFirstUnsent ordered (came_in books) number)
    ⊎ ((why ≡ cause.Twice) × (repeats ≡ false) × (HasUnsent ordered → ⊥) × IsFirstAgain (came_in books) number)))

record AtEnd (repeats : Bool) (text : List ℕ) (number : ℕ) (why : TextCause) : Type 0 where
  lines : List (List ℕ)
  books : List BookState
  is_text : IsText text lines
  right : AreRight lines books
  some : books ≢ []
  wrong : WrongBooks repeats lines books number why

-- there is no line; or a line is wrong; or none is
abbrev Found : Bool → List ℕ → ℕ → TextCause → Type 0
Found repeats text number why = (HasNoFeed text × (number ≡ 1) × (why ≡ cause.Line)) ⊎ (IsWrongAt text number why ⊎ AtEnd repeats text number why)

found : (repeats : Bool) (text : List ℕ) (number : ℕ) (why : TextCause) → IsWrong repeats text number why → Found repeats text number why
found repeats text number cause.Line (inl none) = inl (none.0, none.1, refl)
found repeats text number cause.Line (inr at) = inr (inl at)
found repeats text number cause.Books (inl at) = inr (inl at)
found repeats text number cause.Books (inr (lines, books, is_text, right, some, number_is, missing)) = inr (inr (record {
  lines = lines;
  books = books;
  is_text = is_text;
  right = right;
  some = some;
  wrong = inl (refl, number_is, missing);
}))
found repeats text number cause.Refused at = inr (inl at)
found repeats text number cause.NotSent (lines, books, ordered, is_text, whole, unsent) = inr (inr (record {
  lines = lines;
  books = books;
  is_text = is_text;
  right = whole.right;
  some = some_books books ordered whole.same whole.cluster;
  wrong = inr (ordered, whole.same, whole.cluster, inl (refl, unsent));
}))
found repeats text number cause.Twice (lines, books, ordered, is_text, whole, plain, sent, again) = inr (inr (record {
  lines = lines;
  books = books;
  is_text = is_text;
  right = whole.right;
  some = some_books books ordered whole.same whole.cluster;
  wrong = inr (ordered, whole.same, whole.cluster, inr (refl, plain, sent, again));
}))

-- ---- No two of them

no_wrong_line : (text : List ℕ) (number : ℕ) (why : TextCause) → HasNoFeed text → IsWrongAt text number why → ⊥
no_wrong_line text number why free at = by_lines at.before at.begins.text_is
  where
    by_lines : (before : List (List ℕ)) → text ≡ lines_text (before ++ at.line ∷ []) ++ at.rest → ⊥
    by_lines [] is = no_line text at.line [] at.rest free is
    by_lines (l ∷ ls) is = no_line text l (ls ++ at.line ∷ []) at.rest free is

no_books : (text : List ℕ) (lines : List (List ℕ)) (books : List BookState) → HasNoFeed text → IsText text lines → AreRight lines books → books ≢ [] → ⊥
no_books text [] [] free is right some = some refl
no_books text [] (b ∷ books) free is right some = absurd right.lines_are
no_books text (l ∷ lines) books free (part, begins, ends) right some = no_line text l lines part free begins.text_is

module _ (laws : VerdictLaws) (text : List ℕ) where
  no_wrong_end : (number : ℕ) (why : TextCause) (lines : List (List ℕ)) (books : List BookState) → IsWrongAt text number why → IsText text lines
      → AreRight lines books → ⊥
  no_wrong_end number why lines books at is_text right =
      let more = begin_in text (at.before ++ at.line ∷ []) lines at.rest at.begins.text_is at.begins.each is_text in
      laws.right at.before more.0 at.line why at.books books at.right at.wrong
      (subst (λ (ls : List (List ℕ)). AreRight ls books) (more.1 ∙ append_assoc at.before (at.line ∷ []) more.0) right)

  no_longer : (number other : ℕ) (cause why : TextCause) (g : IsWrongAt text number cause) (h : IsWrongAt text other why) (more : List (List ℕ))
      → h.before ++ h.line ∷ [] ≡ (g.before ++ g.line ∷ []) ++ more → more ≡ []
  no_longer number other cause why g h more is =
      elim (last_in (g.before ++ g.line ∷ []) more h.before h.line is) [
        | inl none ↦ none
        | inr rest ↦
            absurd (laws.right g.before rest.0 g.line cause g.books h.books g.right g.wrong
            (subst (λ (ls : List (List ℕ)). AreRight ls h.books) (rest.1 ∙ append_assoc g.before (g.line ∷ []) rest.0) h.right))
      ]

  one_line : (number other : ℕ) (cause why : TextCause) (g : IsWrongAt text number cause) (h : IsWrongAt text other why)
      → g.before ++ g.line ∷ [] ≡ h.before ++ h.line ∷ []
  one_line number other cause why g h =
      elim (either_first (g.before ++ g.line ∷ []) (h.before ++ h.line ∷ []) g.rest h.rest g.begins.each h.begins.each (sym g.begins.text_is ∙ h.begins.text_is)) [
        | inl (more, is) ↦
            sym (is ∙ ap (λ (ls : List (List ℕ)). (g.before ++ g.line ∷ []) ++ ls) (no_longer number other cause why g h more is) ∙ append-nil (g.before ++ g.line ∷ []))
        | inr (more, is) ↦
            is ∙ ap (λ (ls : List (List ℕ)). (h.before ++ h.line ∷ []) ++ ls) (no_longer other number why cause h g more is) ∙ append-nil (h.before ++ h.line ∷ [])
      ]

  -- the same lines are read in one version
  version_of : (before other : List (List ℕ)) (books others : List BookState) → before ≡ other → (is : AreRight other books) (right : AreRight before others)
      → is.version ≡ right.version
  version_of before other books others same is right =
      subst (λ (ls : List (List ℕ)). (x : AreRight ls books) → x.version ≡ right.version) same (λ x. laws.version before books others x right) is

  at_once : (number other : ℕ) (cause why : TextCause) → IsWrongAt text number cause → IsWrongAt text other why → (number ≡ other) × (cause ≡ why)
  at_once number other cause why g h =
      let same = same_from_push g.before h.before g.line h.line (one_line number other cause why g h) in
      let books : g.books ≡ h.books = laws.books h.before g.books h.books (subst (λ (ls : List (List ℕ)). AreRight ls g.books) same.0 g.right) h.right in
      let version : g.right.version ≡ h.right.version = version_of h.before g.before g.books h.books (sym same.0) g.right h.right in
      let wrong : IsWrongLine h.right.version h.books h.line cause =
      subst (λ (t : BookVersion × (List BookState × List ℕ)). IsWrongLine t.0 t.1.0 t.1.1 cause) (λ i. (version i, (books i, same.1 i))) g.wrong in (
        g.number_is ∙ ap (λ (ls : List (List ℕ)). length ls + 1) same.0 ∙ sym h.number_is,
        laws.apart h.right.version h.books h.line cause why wrong h.wrong,
      )

  books_wrong_once : (repeats : Bool) (lines : List (List ℕ)) (books : List BookState) (number other : ℕ) (cause why : TextCause) → WrongBooks repeats lines books number cause
      → WrongBooks repeats lines books other why → (number ≡ other) × (cause ≡ why)
  books_wrong_once repeats lines books number other cause why (inl g) (inl h) = (g.1 ∙ sym h.1, g.0 ∙ sym h.0)
  books_wrong_once repeats lines books number other cause why (inl g) (inr h) = absurd (not_missing books h.0 h.1 h.2 g.2)
  books_wrong_once repeats lines books number other cause why (inr g) (inl h) = absurd (not_missing books g.0 g.1 g.2 h.2)
  books_wrong_once repeats lines books number other cause why (inr (vs, p, c, inl g)) (inr (bs, q, d, inl h)) = (
    unsent_once bs (came_in books) number other
        (subst (λ (os : List BookState). IsFirstUnsent os (came_in books) number) (one_order books vs bs p q c d) g.1) h.1,
    g.0 ∙ sym h.0,
  )
  books_wrong_once repeats lines books number other cause why (inr (vs, p, c, inl g)) (inr (bs, q, d, inr h)) =
      absurd (all_came_sent books vs p (subst (λ (os : List BookState). HasUnsent os → ⊥) (one_order books bs vs q p d c) h.2) number g.1)
  books_wrong_once repeats lines books number other cause why (inr (vs, p, c, inr g)) (inr (bs, q, d, inl h)) =
      absurd (all_came_sent books bs q (subst (λ (os : List BookState). HasUnsent os → ⊥) (one_order books vs bs p q c d) g.2) other h.1)
  books_wrong_once repeats lines books number other cause why (inr (vs, p, c, inr g)) (inr (bs, q, d, inr h)) =
      (again_once bs (came_in books) number other g.3 h.3, g.0 ∙ sym h.0)

  end_once : (repeats : Bool) (number other : ℕ) (cause why : TextCause) → AtEnd repeats text number cause → AtEnd repeats text other why → (number ≡ other) × (cause ≡ why)
  end_once repeats number other cause why g h =
      let lines : g.lines ≡ h.lines = laws.lines text g.lines h.lines g.is_text h.is_text in
      let books : g.books ≡ h.books = laws.books h.lines g.books h.books (subst (λ (ls : List (List ℕ)). AreRight ls g.books) lines g.right) h.right in
      books_wrong_once repeats h.lines h.books number other cause why
      (subst (λ (t : List (List ℕ) × List BookState). WrongBooks repeats t.0 t.1 number cause) (λ i. (lines i, books i)) g.wrong) h.wrong

  both_found : (repeats : Bool) (number other : ℕ) (cause why : TextCause) → Found repeats text number cause → Found repeats text other why → (number ≡ other) × (cause ≡ why)
  both_found repeats number other cause why (inl g) (inl h) = (g.1 ∙ sym h.1, g.2 ∙ sym h.2)
  both_found repeats number other cause why (inl g) (inr (inl h)) = absurd (no_wrong_line text other why g.0 h)
  both_found repeats number other cause why (inl g) (inr (inr h)) = absurd (no_books text h.lines h.books g.0 h.is_text h.right h.some)
  both_found repeats number other cause why (inr (inl g)) (inl h) = absurd (no_wrong_line text number cause h.0 g)
  both_found repeats number other cause why (inr (inl g)) (inr (inl h)) = at_once number other cause why g h
  both_found repeats number other cause why (inr (inl g)) (inr (inr h)) = absurd (no_wrong_end number cause h.lines h.books g h.is_text h.right)
  both_found repeats number other cause why (inr (inr g)) (inl h) = absurd (no_books text g.lines g.books h.0 g.is_text g.right g.some)
  both_found repeats number other cause why (inr (inr g)) (inr (inl h)) = absurd (no_wrong_end other why g.lines g.books h g.is_text g.right)
  both_found repeats number other cause why (inr (inr g)) (inr (inr h)) = end_once repeats number other cause why g h

  pub one_wrong : (repeats : Bool) (number other : ℕ) (cause why : TextCause) → IsWrong repeats text number cause → IsWrong repeats text other why
      → (number ≡ other) × (cause ≡ why)
  one_wrong repeats number other cause why g h = both_found repeats number other cause why (found repeats text number cause g) (found repeats text other why h)

  -- ---- Books that fit

  fit_sent : (repeats : Bool) (ordered : List BookState) → FitBy repeats ordered → HasUnsent ordered → ⊥
  fit_sent true ordered fit = fit
  fit_sent false ordered fit = fit.0

  fit_once : (repeats : Bool) (ordered : List BookState) → repeats ≡ false → FitBy repeats ordered → HasTwice ordered → ⊥
  fit_once true ordered plain fit = absurd cc
  fit_once false ordered plain fit = fit.1

  not_found : (repeats : Bool) (number : ℕ) (cause : TextCause) (fits : HasFittingBooks repeats text) → Found repeats text number cause → ⊥
  not_found repeats number cause fits (inl g) =
      no_books text fits.lines fits.books g.0 fits.is_text fits.whole.right (some_books fits.books fits.ordered fits.whole.same fits.whole.cluster)
  not_found repeats number cause fits (inr (inl g)) = no_wrong_end number cause fits.lines fits.books g fits.is_text fits.whole.right
  not_found repeats number cause fits (inr (inr g)) =
      let lines : g.lines ≡ fits.lines = laws.lines text g.lines fits.lines g.is_text fits.is_text in
      let books : g.books ≡ fits.books =
      laws.books fits.lines g.books fits.books (subst (λ (ls : List (List ℕ)). AreRight ls g.books) lines g.right) fits.whole.right in
      by_wrong (subst (λ (t : List (List ℕ) × List BookState). WrongBooks repeats t.0 t.1 number cause) (λ i. (lines i, books i)) g.wrong)
    where
      by_wrong : WrongBooks repeats fits.lines fits.books number cause → ⊥
      by_wrong (inl missing) = not_missing fits.books fits.ordered fits.whole.same fits.whole.cluster missing.2
      by_wrong (inr (os, p, c, inl unsent)) =
          all_came_sent fits.books fits.ordered fits.whole.same (fit_sent repeats fits.ordered fits.fit) number
          (subst (λ (xs : List BookState). IsFirstUnsent xs (came_in fits.books) number) (one_order fits.books os fits.ordered p fits.whole.same c fits.whole.cluster) unsent.1)
      by_wrong (inr (os, p, c, inr again)) =
          none_again fits.books fits.ordered fits.whole.same (fit_once repeats fits.ordered again.1 fits.fit) number again.3

  pub fit_not_wrong : (repeats : Bool) (number : ℕ) (cause : TextCause) → HasFittingBooks repeats text → IsWrong repeats text number cause → ⊥
  fit_not_wrong repeats number cause fits wrong = not_found repeats number cause fits (found repeats text number cause wrong)
