-- One more line of a text of books.
use Rattle.std.proofs.Common.{◌≡◌, ℕ, suc, ◌+◌, false, List, [], ◌∷◌, ◌++◌, length, refl, sym, ap, subst, ◌∙◌, append_assoc, arith, ◌<◌, vec_len, vec_capacity}
use Rattle.std.specs.Prelude.{All}
use Rattle.std.specs.List.{AllZip, flat_map}
use Rattle.std.proofs.lemmas.List.{append-nil, flat_map_more, map_push}
use Rattle.std.proofs.lemmas.List.Elements.{All-nil, All-append, All-map, All-push}
use Rattle.std.proofs.lemmas.List.Quantifiers.{all_pairs_push}
use Rattle.ra_frame.specs.declared.frame.Frame.{Frame}
use Rattle.ra_book.specs.declared.book.event.BookEvent.{BookEvent}
use Rattle.ra_book.specs.declared.book.event.BookKind.{BookKind}
use Rattle.ra_book.specs.Book.{BookState, HasHistory, as_sent, opening_book, with_event}
use Rattle.ra_book_text.specs.BookText.{IsEventIn, IsFirst}
use Rattle.ra_book_text.specs.declared.next_line.book_version.BookVersion.{BookVersion}
use Rattle.ra_book_text.specs.declared.next_line.book_version.BookVersion.TheVariants.{One}
use Rattle.ra_book_text.specs.declared.text_settling.came_frames.Came.{Came}
use Rattle.ra_book_text.specs.declared.text_settling.gathering.Gathered.{Gathered}
use Rattle.ra_book_text.specs.Texts.{Said, Says, said_by, AreBeside, AreLinesOf, AreRight, IsBeside, IsRead, came_by, came_from, came_in}
use Rattle.ra_book_text.specs.Texts.Said.{Opens, Happens}
use Rattle.ra_book_text.specs.Gathering.{HasHappened, IsGathered, IsOpened, books_of}
use Rattle.ra_book_text.proofs.Versions.{reads_first, reads_event}
use Rattle.ra_book_text.proofs.Last.{all_before, at_last, pairs_before, pairs_at_last}

-- another line, and what it says
pub zip_push : (lines : List (List ℕ)) (said : List Said) (line : List ℕ) (one : Said) → AllZip Says lines said → Says line one
    → AllZip Says (lines ++ line ∷ []) (said ++ one ∷ [])
zip_push [] [] line one h is = (is, tt)
zip_push [] (t ∷ said) line one h is = absurd h
zip_push (l ∷ lines) [] line one h is = absurd h
zip_push (l ∷ lines) (t ∷ said) line one h is = (h.0, zip_push lines said line one h.1 is)

zip_long : (lines : List (List ℕ)) (said : List Said) → AllZip Says lines said → length lines ≡ length said
zip_long [] [] h = refl
zip_long [] (t ∷ said) h = absurd h
zip_long (l ∷ lines) [] h = absurd h
zip_long (l ∷ lines) (t ∷ said) h = ap suc (zip_long lines said h.1)

-- what the lines say, with the lines of another book
pub said_more : (books : List BookState) (book : BookState) → flat_map said_by (books ++ book ∷ []) ≡ flat_map said_by books ++ said_by book
said_more books book = sym (flat_map_more said_by [] books book)

-- ---- A first line

module _ (lines : List (List ℕ)) (books : List BookState) (line : List ℕ) (version : BookVersion) (node nodes start : ℕ) (right : AreRight lines books) (is : IsFirst line version node nodes start)
    (beside : All (IsBeside node nodes start) books) (history : HasHistory (opening_book node nodes start)) where
  abbrev pub opens : AreRight (lines ++ line ∷ []) (books ++ opening_book node nodes start ∷ [])
  opens = record {
    version = version;
    read_in = reads_first lines line One right.version version node nodes start right.read_in is;
    lines_are =
        subst (AllZip Says (lines ++ line ∷ [])) (sym (said_more books (opening_book node nodes start)))
        (zip_push lines (flat_map said_by books) line (Opens node nodes start) right.lines_are (version, is));
    each =
        All-push IsRead books (opening_book node nodes start) right.each
        (record { history = history; whole = refl; no_fault = refl; kept = All-nil (λ sent. sent.lost ≡ false) });
    beside = all_pairs_push (λ a b. IsBeside b.me b.nodes b.start a) books (opening_book node nodes start) right.beside beside;
  }

-- ---- An event

said_new : (old : BookState) (clock : ℕ) (kind : BookKind) (frames : List Frame) → said_by (with_event old clock kind frames) ≡ said_by old ++ Happens kind ∷ []
said_new old clock kind frames =
    ap (λ (said : List Said). Opens old.me old.nodes old.start ∷ said) (map_push (λ (event : BookEvent). Happens event.kind) old.events (record { clock = clock; kind = kind }))

pub said_on : (earlier : List BookState) (old : BookState) (clock : ℕ) (kind : BookKind) (frames : List Frame)
    → flat_map said_by (earlier ++ old ∷ []) ++ Happens kind ∷ [] ≡ flat_map said_by (earlier ++ with_event old clock kind frames ∷ [])
said_on earlier old clock kind frames =
    ap (λ (said : List Said). said ++ Happens kind ∷ []) (said_more earlier old)
    ∙ append_assoc (flat_map said_by earlier) (said_by old) (Happens kind ∷ [])
    ∙ ap (λ (said : List Said). flat_map said_by earlier ++ said) (sym (said_new old clock kind frames))
    ∙ sym (said_more earlier (with_event old clock kind frames))

pub read_on : (old : BookState) (clock : ℕ) (kind : BookKind) (frames : List Frame) → IsRead old → HasHistory (with_event old clock kind frames)
    → IsRead (with_event old clock kind frames)
read_on old clock kind frames read history = record {
  history = history;
  whole = read.whole;
  no_fault = read.no_fault;
  kept =
      All-append (λ sent. sent.lost ≡ false) old.sent (as_sent frames) read.kept
      (All-map (λ sent. sent.lost ≡ false) (λ frame. record { frame = frame; lost = false }) frames (λ k d low. refl));
}

module _ (lines : List (List ℕ)) (earlier : List BookState) (old : BookState) (line : List ℕ) (kind : BookKind) (clock : ℕ) (frames : List Frame)
    (right : AreRight lines (earlier ++ old ∷ [])) (is : IsEventIn right.version line kind) (history : HasHistory (with_event old clock kind frames)) where
  abbrev pub happens : AreRight (lines ++ line ∷ []) (earlier ++ with_event old clock kind frames ∷ [])
  happens = record {
    version = right.version;
    read_in = reads_event lines line One right.version kind right.read_in is;
    lines_are =
        subst (AllZip Says (lines ++ line ∷ [])) (said_on earlier old clock kind frames)
        (zip_push lines (flat_map said_by (earlier ++ old ∷ [])) line (Happens kind) right.lines_are is.1);
    each =
        All-push IsRead earlier (with_event old clock kind frames) (all_before IsRead earlier old right.each)
        (read_on old clock kind frames (at_last IsRead earlier old right.each) history);
    beside =
        all_pairs_push (λ a b. IsBeside b.me b.nodes b.start a) earlier (with_event old clock kind frames)
        (pairs_before (λ a b. IsBeside b.me b.nodes b.start a) earlier old right.beside)
        (pairs_at_last (λ a b. IsBeside b.me b.nodes b.start a) earlier old right.beside);
  }

-- ---- What comes

came_first : (number : ℕ) (said : List Said) (node nodes start : ℕ) → came_from number (said ++ Opens node nodes start ∷ []) ≡ came_from number said
came_first number [] node nodes start = refl
came_first number (Opens n m s ∷ said) node nodes start = came_first (number + 1) said node nodes start
came_first number (Happens kind ∷ said) node nodes start = ap (λ (came : List Came). came_by number kind ++ came) (came_first (number + 1) said node nodes start)

came_next : (number : ℕ) (said : List Said) (kind : BookKind) → came_from number (said ++ Happens kind ∷ []) ≡ came_from number said ++ came_by (number + length said) kind
came_next number [] kind = append-nil (came_by number kind) ∙ ap (λ n. came_by n kind) (omega arith)
came_next number (Opens n m s ∷ said) kind =
    came_next (number + 1) said kind ∙ ap (λ n. came_from (number + 1) said ++ came_by n kind) (omega arith)
came_next number (Happens one ∷ said) kind =
    ap (λ (came : List Came). came_by number one ++ came) (came_next (number + 1) said kind ∙ ap (λ n. came_from (number + 1) said ++ came_by n kind) (omega arith))
    ∙ sym (append_assoc (came_by number one) (came_from (number + 1) said) (came_by (number + length (Happens one ∷ said)) kind))

-- ---- What was gathered

-- the same of books that are the same
abbrev as_books : (lines : List (List ℕ)) (vs bs : List BookState) → vs ≡ bs → AreRight lines vs → AreRight lines bs
as_books lines vs bs same right = record {
  version = right.version;
  read_in = right.read_in;
  lines_are = subst (λ (books : List BookState). AreLinesOf lines books) same right.lines_are;
  each = subst (All IsRead) same right.each;
  beside = subst AreBeside same right.beside;
}

pub begun : (g : Gathered) (line : List ℕ) (node nodes start : ℕ) → IsFirst line g.version node nodes start → g.earlier.items ≡ [] → g.last ≡ opening_book node nodes start
    → g.came.items ≡ [] → HasHistory g.last → vec_len g.earlier < vec_capacity g.earlier → IsGathered (line ∷ []) g
begun g line node nodes start is none last empty history room =
    let same : books_of g ≡ opening_book node nodes start ∷ [] = λ i. none i ++ last i ∷ [] in
    let right : AreRight [] [] = record { version = One; read_in = refl; lines_are = tt; each = All-nil IsRead; beside = λ i j d low within. absurd (omega (arith, within)) } in
    record {
      right = as_books (line ∷ []) (opening_book node nodes start ∷ []) (books_of g) (sym same) (opens [] [] line g.version node nodes start right is (All-nil (IsBeside node nodes start)) (subst HasHistory last history));
      version_is = refl;
      came_is = empty ∙ ap came_in (sym same);
      room = room;
    }

pub opened : (lines : List (List ℕ)) (line : List ℕ) (old new : Gathered) → IsGathered lines old → IsOpened old line new → IsGathered (lines ++ line ∷ []) new
opened lines line old new g o =
    let book = opening_book o.node o.nodes o.start in
    let same : books_of new ≡ books_of old ++ book ∷ [] = λ i. o.earlier_is i ++ o.last_is i ∷ [] in
    record {
      right =
          as_books (lines ++ line ∷ []) (books_of old ++ book ∷ []) (books_of new) (sym same)
          (opens lines (books_of old) line o.version o.node o.nodes o.start g.right o.is_first o.beside (subst HasHistory o.last_is o.history));
      version_is = o.version_is;
      came_is =
          o.came_is ∙ g.came_is
          ∙ sym (ap (came_from 1) (said_more (books_of old) book) ∙ came_first 1 (flat_map said_by (books_of old)) o.node o.nodes o.start)
          ∙ ap came_in (sym same);
      room = o.room;
    }

pub happened : (lines : List (List ℕ)) (line : List ℕ) (number : ℕ) (old new : Gathered) → IsGathered lines old → number ≡ length lines + 1 → HasHappened old number line new
    → IsGathered (lines ++ line ∷ []) new
happened lines line number old new g number_is h =
    let (clock, frames, last_is, history) = h.taken in
    let book = with_event old.last clock h.kind frames in
    let same : books_of new ≡ old.earlier.items ++ book ∷ [] = λ i. (h.earlier_is i).items ++ last_is i ∷ [] in
    let event = subst (λ (v : BookVersion). IsEventIn v line h.kind) g.version_is h.is_event in
    let long : length lines ≡ length (flat_map said_by (books_of old)) = zip_long lines (flat_map said_by (books_of old)) g.right.lines_are in
    record {
      right =
          as_books (lines ++ line ∷ []) (old.earlier.items ++ book ∷ []) (books_of new) (sym same)
          (happens lines old.earlier.items old.last line h.kind clock frames g.right event (subst HasHistory last_is history));
      version_is = h.version_is ∙ g.version_is;
      came_is =
          h.came_is ∙ ap (λ (came : List Came). came ++ came_by number h.kind) g.came_is
          ∙ ap (λ n. came_in (books_of old) ++ came_by n h.kind) (omega (arith, number_is, long))
          ∙ sym (came_next 1 (flat_map said_by (books_of old)) h.kind)
          ∙ ap (came_from 1) (said_on old.earlier.items old.last clock h.kind frames)
          ∙ ap came_in (sym same);
      room = subst (λ (bs : _). vec_len bs < vec_capacity bs) (sym h.earlier_is) g.room;
    }
