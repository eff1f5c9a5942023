-- Lines belong to one list of books, and none of them is wrong.
use Rattle.std.proofs.Common.{◌≡◌, ◌≢◌, ℕ, List, [], ◌∷◌, ◌++◌, append-nil, append_assoc, map, inl, inr, refl, sym, ap, subst, ◌∙◌}
use Rattle.std.specs.Prelude.{All, AllPairs}
use Rattle.std.specs.List.{flat_map}
use Rattle.std.proofs.lemmas.List.Elements.{All-head, All-tail}
use Rattle.ra_book.specs.declared.book.event.BookEvent.{BookEvent}
use Rattle.ra_book.specs.declared.book.event.BookKind.{BookKind}
use Rattle.ra_book.specs.Book.{BookState}
use Rattle.ra_book_text.specs.declared.answering.line_refusal.Refusal.{Refusal}
use Rattle.ra_book_text.specs.declared.answering.line_refusal.Refusal.TheVariants as refusal
use Rattle.ra_book_text.specs.BookText.{AllowsKind, HasForm, IsEvent, IsFirst, IsNoFirst, IsTooNew, IsUnread}
use Rattle.ra_book_text.specs.declared.next_line.book_version.BookVersion.{BookVersion}
use Rattle.ra_book_text.specs.declared.next_line.book_version.BookVersion.TheVariants.{One}
use Rattle.ra_book_text.specs.BookText.Form.{Receive}
use Rattle.ra_book_text.specs.declared.text_settling.settle_error.TextCause.{TextCause}
use Rattle.ra_book_text.specs.declared.text_settling.settle_error.TextCause.TheVariants as cause
use Rattle.ra_book_text.specs.Texts.{AreBeside, AreRight, CanTake, IsBeside, IsRead, Said, Says, said_by}
use Rattle.ra_book_text.specs.Texts.Said.{Opens, Happens}
use Rattle.ra_book_text.specs.Verdicts.{IsNoLine, IsOfAnother, IsRefused, IsWrongLine}
use Rattle.ra_book_text.proofs.Last.{at_last, pairs_at_last}
use Rattle.ra_book_text.proofs.OneReading.{LineLaws, all_said, event_form, first_no_event, head_of, said_at, tail_of}
use Rattle.ra_book_text.proofs.Versions.{one_version_read, not_too_new}
use Rattle.ra_book_text.proofs.ListPieces.{pairs_left}
use Rattle.ra_book_text.proofs.OneHistory.{GoesOnWith, HistoryLaws, can_take, kinds_of, one_book}

-- ---- What the lines of books say, book by book

abbrev happens_all : List BookEvent → List Said
happens_all events = map (λ event. Happens event.kind) events

abbrev all_said_by : List BookState → List Said
all_said_by books = flat_map said_by books

-- no event is said before a book begins
abbrev Begins : List Said → Type 0
Begins [] = Unit {0}
Begins (Opens node nodes start ∷ said) = Unit {0}
Begins (Happens kind ∷ said) = ⊥

books_begin : (books : List BookState) → Begins (all_said_by books)
books_begin [] = tt
books_begin (b ∷ books) = tt

opens_after : (books : List BookState) (node nodes start : ℕ) (said : List Said) → Begins (all_said_by books ++ Opens node nodes start ∷ said)
opens_after [] node nodes start said = tt
opens_after (b ∷ books) node nodes start said = tt

happens_after : (books : List BookState) (last : BookState) (kind : BookKind) (said : List Said) → Begins (all_said_by (books ++ last ∷ []) ++ Happens kind ∷ said)
happens_after [] last kind said = tt
happens_after (b ∷ books) last kind said = tt

same_kind : {a b : BookKind} → Happens a ≡ Happens b → a ≡ b
same_kind e = cc

same_opens : {a b n m s t : ℕ} → Opens a n s ≡ Opens b m t → (a ≡ b) × (n ≡ m) × (s ≡ t)
same_opens e = (cc, cc, cc)

-- the events of a book, and what comes after them
events_once : (es fs : List BookEvent) (xs ys : List Said) → Begins xs → Begins ys → happens_all es ++ xs ≡ happens_all fs ++ ys
    → (kinds_of es ≡ kinds_of fs) × (xs ≡ ys)
events_once [] [] xs ys g h is = (refl, is)
events_once [] (f ∷ fs) xs ys g h is = absurd (subst Begins is g)
events_once (e ∷ es) [] xs ys g h is = absurd (subst Begins (sym is) h)
events_once (e ∷ es) (f ∷ fs) xs ys g h is =
    let first : e.kind ≡ f.kind = same_kind (head_of is) in
    let rest = events_once es fs xs ys g h (tail_of is) in
    (λ i. first i ∷ rest.0 i, rest.1)

events_more : (es fs : List BookEvent) (xs ys : List Said) (kind : BookKind) → Begins xs → happens_all es ++ xs ≡ happens_all fs ++ Happens kind ∷ ys
    → (later : List BookKind) × (kinds_of es ≡ kinds_of fs ++ kind ∷ later)
events_more [] [] xs ys kind g is = absurd (subst Begins is g)
events_more [] (f ∷ fs) xs ys kind g is = absurd (subst Begins is g)
events_more (e ∷ es) [] xs ys kind g is = (kinds_of es, ap (λ (k : BookKind). k ∷ kinds_of es) (same_kind (head_of is)))
events_more (e ∷ es) (f ∷ fs) xs ys kind g is =
    let first : e.kind ≡ f.kind = same_kind (head_of is) in
    let rest = events_more es fs xs ys kind g (tail_of is) in
    (rest.0, λ i. first i ∷ rest.1 i)

module _ (laws : HistoryLaws) where
  pub books_once : (vs bs : List BookState) → All IsRead vs → All IsRead bs → all_said_by vs ≡ all_said_by bs → vs ≡ bs
  books_once [] [] g h is = refl
  books_once [] (b ∷ bs) g h is = absurd cc
  books_once (a ∷ vs) [] g h is = absurd cc
  books_once (a ∷ vs) (b ∷ bs) g h is =
      let first = same_opens (head_of is) in
      let rest = events_once a.events b.events (all_said_by vs) (all_said_by bs) (books_begin vs) (books_begin bs) (tail_of is) in
      let one = one_book laws a b (All-head IsRead a vs g) (All-head IsRead b bs h) first.0 first.1 first.2 rest.0 in
      let others = books_once vs bs (All-tail IsRead a vs g) (All-tail IsRead b bs h) rest.1 in
      λ i. one i ∷ others i

  -- these books come first, and then one of this node
  record GoesOnBy (books : List BookState) (node nodes start : ℕ) (all : List BookState) : Type 0 where
    book : BookState
    more : List BookState
    all_are : all ≡ books ++ book ∷ more
    me_is : book.me ≡ node
    nodes_is : book.nodes ≡ nodes
    start_is : book.start ≡ start

  by_opening : (books all : List BookState) (node nodes start : ℕ) (said : List Said) → All IsRead books → All IsRead all
      → all_said_by all ≡ all_said_by books ++ Opens node nodes start ∷ said → GoesOnBy books node nodes start all
  by_opening [] [] node nodes start said g h is = absurd cc
  by_opening [] (b ∷ bs) node nodes start said g h is =
      let first = same_opens (head_of is) in
      record { book = b; more = bs; all_are = refl; me_is = first.0; nodes_is = first.1; start_is = first.2 }
  by_opening (a ∷ vs) [] node nodes start said g h is = absurd cc
  by_opening (a ∷ vs) (b ∷ bs) node nodes start said g h is =
      let first = same_opens (head_of is) in
      let parts = events_once b.events a.events (all_said_by bs) (all_said_by vs ++ Opens node nodes start ∷ said) (books_begin bs) (opens_after vs node nodes start said)
      (tail_of is ∙ append_assoc (happens_all a.events) (all_said_by vs) (Opens node nodes start ∷ said)) in
      let one : b ≡ a = one_book laws b a (All-head IsRead b bs h) (All-head IsRead a vs g) first.0 first.1 first.2 parts.0 in
      let rest = by_opening vs bs node nodes start said (All-tail IsRead a vs g) (All-tail IsRead b bs h) parts.1 in
      record {
        book = rest.book;
        more = rest.more;
        all_are = λ i. one i ∷ rest.all_are i;
        me_is = rest.me_is;
        nodes_is = rest.nodes_is;
        start_is = rest.start_is;
      }

  by_event : (earlier all : List BookState) (last : BookState) (kind : BookKind) (said : List Said) → All IsRead all
      → all_said_by all ≡ all_said_by (earlier ++ last ∷ []) ++ Happens kind ∷ said → GoesOnWith laws last kind
  by_event [] [] last kind said h is = absurd cc
  by_event [] (b ∷ bs) last kind said h is =
      let first = same_opens (head_of is) in
      let more = events_more b.events last.events (all_said_by bs) said kind (books_begin bs)
      (tail_of is ∙ ap (λ (xs : List Said). xs ++ Happens kind ∷ said) (append-nil (happens_all last.events))) in
      record {
        book = b;
        read = All-head IsRead b bs h;
        me_is = first.0;
        nodes_is = first.1;
        start_is = first.2;
        later = more.0;
        kinds = more.1;
      }
  by_event (a ∷ vs) [] last kind said h is = absurd cc
  by_event (a ∷ vs) (b ∷ bs) last kind said h is =
      let parts = events_once b.events a.events (all_said_by bs) (all_said_by (vs ++ last ∷ []) ++ Happens kind ∷ said) (books_begin bs) (happens_after vs last kind said)
      (tail_of is ∙ append_assoc (happens_all a.events) (all_said_by (vs ++ last ∷ [])) (Happens kind ∷ said)) in
      by_event vs bs last kind said (All-tail IsRead b bs h) parts.1

-- ---- A wrong line

no_push : (earlier : List BookState) (last : BookState) → earlier ++ last ∷ [] ≡ [] → ⊥
no_push [] last is = absurd cc
no_push (b ∷ earlier) last is = absurd cc

-- a refused line, if its digits are no frame
digits_of : (line : List ℕ) (why : Refusal) → why ≢ refusal.Line → IsUnread line why → (digits : List ℕ) × HasForm line (Receive digits)
digits_of line refusal.Line other h = absurd (other refl)
digits_of line refusal.Hex other h = (h.0, h.1)
digits_of line (refusal.Frame fault) other h = (h.0, h.1)
digits_of line (refusal.Event why) other h = absurd h

module _ (lines : LineLaws) (laws : HistoryLaws) where
  first_not_refused : (version : BookVersion) (books : List BookState) (line : List ℕ) (own : BookVersion) (node nodes start : ℕ) → IsFirst line own node nodes start
      → IsRefused version books line → ⊥
  first_not_refused version books line own node nodes start is (earlier, last, are, inl (why, other, unread)) =
      let form = digits_of line why other unread in
      lines.apart line own node nodes start (Receive form.0) is form.1
  first_not_refused version books line own node nodes start is (earlier, last, are, inr (kind, event, cannot)) = first_no_event lines line own node nodes start kind is event.1

  -- a book that begins beside the others is not of another cluster
  not_another : (books all : List BookState) (line : List ℕ) (own : BookVersion) (node nodes start : ℕ) → IsFirst line own node nodes start → AreBeside all
      → GoesOnBy laws books node nodes start all → IsOfAnother books line → ⊥
  not_another books all line own node nodes start is beside on (own', node', nodes', start', is', (k, book, low, at, not)) =
      let same = lines.first line own own' node node' nodes nodes' start start' is is' in
      let pairs = pairs_left (λ a b. IsBeside b.me b.nodes b.start a) (books ++ on.book ∷ []) on.more
      (subst (AllPairs (λ a b. IsBeside b.me b.nodes b.start a)) (on.all_are ∙ sym (append_assoc books (on.book ∷ []) on.more)) beside) in
      let here = pairs_at_last (λ a b. IsBeside b.me b.nodes b.start a) books on.book pairs k book low in
      let me : on.book.me ≡ node' = on.me_is ∙ same.1 in
      let count : on.book.nodes ≡ nodes' = on.nodes_is ∙ same.2 in
      let from : on.book.start ≡ start' = on.start_is ∙ same.3 in
      not (subst (λ (t : ℕ × (ℕ × (ℕ × BookState))). IsBeside t.0 t.1.0 t.1.1.0 t.1.1.1) (λ i. (me i, (count i, (from i, at i)))) here)

  first_right : (version : BookVersion) (books all : List BookState) (line : List ℕ) (own : BookVersion) (node nodes start : ℕ) (why : TextCause) → IsFirst line own node nodes start → AreBeside all
      → GoesOnBy laws books node nodes start all → IsWrongLine version books line why → ⊥
  first_right version books all line own node nodes start cause.Line is beside on wrong = wrong.0 own node nodes start is
  first_right version books all line own node nodes start cause.Books is beside on wrong = not_another books all line own node nodes start is beside on wrong
  first_right version books all line own node nodes start cause.Refused is beside on wrong = first_not_refused version books line own node nodes start is wrong
  first_right version books all line own node nodes start cause.NotSent is beside on wrong = wrong
  first_right version books all line own node nodes start cause.Twice is beside on wrong = wrong

  event_right : (version : BookVersion) (books all : List BookState) (line : List ℕ) (kind : BookKind) (why : TextCause) (said : List Said) → IsEvent line kind → (IsTooNew version line → ⊥) → All IsRead books → All IsRead all
      → all_said_by all ≡ all_said_by books ++ Happens kind ∷ said → IsWrongLine version books line why → ⊥
  event_right version books all line kind cause.Line said is fits g h said_is (no_first, inl none) =
      subst Begins (said_is ∙ ap (λ (bs : List BookState). all_said_by bs ++ Happens kind ∷ said) none) (books_begin all)
  event_right version books all line kind cause.Line said is fits g h said_is (no_first, inr (inl no_form)) = let (form, has) = event_form line kind is in no_form form has
  event_right version books all line kind cause.Line said is fits g h said_is (no_first, inr (inr new)) = fits new
  event_right version books all line kind cause.Books said is fits g h said_is (own, node, nodes, start, first, any) = first_no_event lines line own node nodes start kind first is
  event_right version books all line kind cause.Refused said is fits g h said_is (earlier, last, are, inl (why, other, unread)) = lines.is_read line kind why is unread
  event_right version books all line kind cause.Refused said is fits g h said_is (earlier, last, are, inr (refused, event, cannot)) =
      let on = by_event laws earlier all last kind said h (said_is ∙ ap (λ (bs : List BookState). all_said_by bs ++ Happens kind ∷ said) are) in
      let read = at_last IsRead earlier last (subst (All IsRead) are g) in
      cannot (subst (CanTake last) (lines.event line kind refused is event.1) (can_take laws last kind read on))
  event_right version books all line kind cause.NotSent said is fits g h said_is wrong = wrong
  event_right version books all line kind cause.Twice said is fits g h said_is wrong = wrong

  pub one_books : (ls : List (List ℕ)) (books others : List BookState) → AreRight ls books → AreRight ls others → books ≡ others
  one_books ls books others g h = books_once laws books others g.each h.each (all_said lines ls (all_said_by books) (all_said_by others) g.lines_are h.lines_are)

  pub one_version_of : (ls : List (List ℕ)) (books others : List BookState) (is : AreRight ls books) (other : AreRight ls others) → is.version ≡ other.version
  one_version_of ls books others is other = one_version_read lines ls One is.version other.version is.read_in other.read_in

  by_said : (version : BookVersion) (books all : List BookState) (line : List ℕ) (why : TextCause) (one : Said) (later : List Said) → All IsRead books → All IsRead all → AreBeside all
      → Says line one → all_said_by all ≡ all_said_by books ++ one ∷ later → (IsNoFirst line → IsTooNew version line → ⊥) → IsWrongLine version books line why → ⊥
  by_said version books all line why (Opens node nodes start) later g h beside says is fits wrong =
      first_right version books all line says.0 node nodes start why says.1 beside (by_opening laws books all node nodes start later g h is) wrong
  by_said version books all line why (Happens kind) later g h beside says is fits wrong =
      event_right version books all line kind why later says (fits (λ v node nodes start first. first_no_event lines line v node nodes start kind first says)) g h is wrong

  -- no line is wrong among lines that are right
  pub all_right : (before after : List (List ℕ)) (line : List ℕ) (why : TextCause) (earlier books : List BookState) (right : AreRight before earlier)
      → IsWrongLine right.version earlier line why → AreRight (before ++ line ∷ after) books → ⊥
  all_right before after line why earlier books g wrong h =
      let at = said_at before after line (all_said_by books) h.lines_are in
      let same = all_said lines before at.earlier (all_said_by earlier) at.said g.lines_are in
      by_said g.version earlier books line why at.one at.later g.each h.each h.beside at.says (at.all_is ∙ ap (λ (xs : List Said). xs ++ at.one ∷ at.later) same)
      (not_too_new lines before after line One g.version h.version g.read_in h.read_in) wrong

  -- ---- One cause

  refused_not_line : (version : BookVersion) (books : List BookState) (line : List ℕ) → IsNoLine version books line → IsRefused version books line → ⊥
  refused_not_line version books line (no_first, inl none) (earlier, last, are, why) = absurd (no_push earlier last (sym are ∙ none))
  refused_not_line version books line (no_first, inr (inl no_form)) (earlier, last, are, inl (why, other, unread)) =
      let form = digits_of line why other unread in
      no_form (Receive form.0) form.1
  refused_not_line version books line (no_first, inr (inl no_form)) (earlier, last, are, inr (kind, event, cannot)) = let (form, has) = event_form line kind event.1 in no_form form has
  refused_not_line version books line (no_first, inr (inr (new, is, not))) (earlier, last, are, inl (why, other, unread)) = lines.is_read line new why is unread
  refused_not_line version books line (no_first, inr (inr (new, is, not))) (earlier, last, are, inr (kind, event, cannot)) =
      not (subst (AllowsKind version) (lines.event line kind new event.1 is) event.0)

  -- a line is wrong for one cause
  pub one_cause : (version : BookVersion) (books : List BookState) (line : List ℕ) (a b : TextCause) → IsWrongLine version books line a → IsWrongLine version books line b → a ≡ b
  one_cause version books line cause.NotSent b g h = absurd g
  one_cause version books line cause.Twice b g h = absurd g
  one_cause version books line cause.Line cause.Line g h = refl
  one_cause version books line cause.Line cause.Books g h = absurd (g.0 h.0 h.1 h.2 h.3 h.4)
  one_cause version books line cause.Line cause.Refused g h = absurd (refused_not_line version books line g h)
  one_cause version books line cause.Line cause.NotSent g h = absurd h
  one_cause version books line cause.Line cause.Twice g h = absurd h
  one_cause version books line cause.Books cause.Line g h = absurd (h.0 g.0 g.1 g.2 g.3 g.4)
  one_cause version books line cause.Books cause.Books g h = refl
  one_cause version books line cause.Books cause.Refused g h = absurd (first_not_refused version books line g.0 g.1 g.2 g.3 g.4 h)
  one_cause version books line cause.Books cause.NotSent g h = absurd h
  one_cause version books line cause.Books cause.Twice g h = absurd h
  one_cause version books line cause.Refused cause.Line g h = absurd (refused_not_line version books line h g)
  one_cause version books line cause.Refused cause.Books g h = absurd (first_not_refused version books line h.0 h.1 h.2 h.3 h.4 g)
  one_cause version books line cause.Refused cause.Refused g h = refl
  one_cause version books line cause.Refused cause.NotSent g h = absurd h
  one_cause version books line cause.Refused cause.Twice g h = absurd h
