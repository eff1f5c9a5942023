-- The lines that a node accepted are its book, as settling reads it, with what the node answered.
use Rattle.std.proofs.Common.{codes, ◌≡◌, ℕ, Bool, false, List, [], ◌∷◌, ◌++◌, map, inl, inr, refl, sym, ap, subst, ◌∙◌}
use Rattle.std.specs.Prelude.{All, None, flat_map}
use Rattle.std.specs.List.{AllZip}
use Rattle.std.proofs.lemmas.List.Elements.{All-cons, All-head, All-map, All-nil, All-tail}
use Rattle.ra_book.specs.declared.book.event.BookEvent.{BookEvent}
use Rattle.ra_book.specs.History.{clock_of, IsHistory, Posting, frames_of}
use Rattle.ra_book.specs.Book.{BookState, HasHistory, as_sent, nothing_taken}
use Rattle.ra_book_text.specs.declared.text_settling.SettledText.{SettledText}
use Rattle.ra_book.specs.declared.book.sent.Sent.{Sent}
use Rattle.ra_book_text.specs.BookText.{AreReadIn, IsEventIn}
use Rattle.ra_book_text.specs.declared.next_line.book_version.BookVersion.{BookVersion}
use Rattle.ra_book_text.specs.declared.next_line.book_version.BookVersion.TheVariants.{One}
use Rattle.ra_book.specs.Timed.{Timed, TakesEach, opening}
use Rattle.ra_book_text.specs.Answers.{Answered, AnswersEach, kept_of, lines_of, text_of}
use Rattle.ra_book_text.specs.Book.{AnswersBook}
use Rattle.ra_book_text.specs.Answers.Answered.{Accepted, Refused}
use Rattle.ra_book_text.specs.Laws.{Driven, IsAnswerTo, IsBookOf, IsDriven, all_book_lines, book_lines}
use Rattle.ra_book_text.specs.Texts.{AreBeside, AreRight, IsRead, IsText, Said, Says, said_by}
use Rattle.ra_book_text.specs.Texts.Said.{Happens}
use Rattle.ra_book_text.specs.Verdicts.{IsSettledText}
use Rattle.ra_book_text.proofs.OneHistory.{HistoryLaws}
use Rattle.ra_book_text.proofs.OneBooks.{books_once}
use Rattle.ra_book.specs.declared.book.event.BookKind.{BookKind}
use Rattle.ra_book_text.proofs.Versions.{reads_append}
use Rattle.ra_book_text.proofs.OneReading.{LineLaws, all_said, one_text}

-- what was answered to a book is what a driven node answered
pub driven_by : (first : List ℕ) (lines : List (List ℕ)) (text : List ℕ) → AnswersBook (first ∷ lines) text
    → (driven : Driven) × IsDriven driven × (driven.first ≡ first) × (lines_of driven.answered ≡ lines) × (text ≡ codes "ok\n" ++ text_of driven.answered)
driven_by first lines text (version, node, nodes, start, end, rest, is_first, text_is, (all, lines_are, rest_is, each)) = (
  record { first = first; answered = all; end = end },
  (version, node, nodes, start, is_first, each),
  refl,
  sym lines_are,
  text_is ∙ ap (λ (t : List ℕ). codes "ok\n" ++ t) rest_is,
)

-- the outcome of the lines that a node accepted
record Happened (version : BookVersion) (old new : Timed) (kept : List Answered) : Type 0 where
  postings : List Posting
  takes : TakesEach old postings new
  answers : AllZip IsAnswerTo postings kept
  each_in : AllZip (IsEventIn version) (lines_of kept) (map (λ event. event.kind) (map (λ p. p.event) postings))

happened : (version : BookVersion) (old new : Timed) (all : List Answered) → AnswersEach version old all new → Happened version old new (kept_of all)
happened version old new [] h = record { postings = []; takes = h; answers = tt; each_in = tt }
happened version old new (Refused line answer ∷ all) h = happened version old new all h.1
happened version old new (Accepted line answer ∷ all) (next, accepts, later) =
    let rest = happened version next new all later in
    let event : BookEvent = record { clock = next.clock; kind = accepts.reacts.kind } in
    record {
      postings = record { event = event; sends = accepts.sends; marks = accepts.marks } ∷ rest.postings;
      takes = (next, accepts.reacts.takes, refl, rest.takes);
      answers = ((accepts.reacts.is_event.1, accepts.posted), rest.answers);
      each_in = (accepts.reacts.is_event, rest.each_in);
    }

-- the law of ra_book: what a node with a clock took is a history
abbrev pub TakenIsHistory : Type 0
TakenIsHistory = (me n start : ℕ) (postings : List Posting) (new : Timed) → TakesEach (opening me n start) postings new
    → (history : IsHistory me n start (map (λ p. p.event) postings) (as_sent (frames_of postings)) new.node)
    × (history.postings ≡ postings) × (clock_of (map (λ p. p.event) postings) ≡ new.clock)

-- ---- The history

-- the lines of the events are read in their version
reads_each : (version : BookVersion) (lines : List (List ℕ)) (kinds : List BookKind) → AllZip (IsEventIn version) lines kinds → AreReadIn version lines version
reads_each version [] [] h = refl
reads_each version [] (k ∷ kinds) h = absurd h
reads_each version (l ∷ lines) [] h = absurd h
reads_each version (l ∷ lines) (k ∷ kinds) h = inr (k, h.0, reads_each version lines kinds h.1)

says_each : (postings : List Posting) (kept : List Answered) → AllZip IsAnswerTo postings kept
    → AllZip Says (lines_of kept) (map (λ event. Happens event.kind) (map (λ p. p.event) postings))
says_each [] [] h = tt
says_each [] (one ∷ kept) h = absurd h
says_each (p ∷ postings) [] h = absurd h
says_each (p ∷ postings) (Accepted line answer ∷ kept) h = (h.0.0, says_each postings kept h.1)
says_each (p ∷ postings) (Refused line answer ∷ kept) h = absurd h.0

module _ (law : TakenIsHistory) where
  -- the lines that were accepted are the events of a history
  pub history : (version : BookVersion) (me n start : ℕ) (new : Timed) (all : List Answered) → AnswersEach version (opening me n start) all new
      → (events : List BookEvent) × (sent : List Sent) × IsHistory me n start events sent new.node
      × AllZip (IsEventIn version) (lines_of (kept_of all)) (map (λ event. event.kind) events) × (clock_of events ≡ new.clock)
  history version me n start new all each =
      let h = happened version (opening me n start) new all each in
      let (is, same, clock) = law me n start h.postings new h.takes in
      (map (λ (p : Posting). p.event) h.postings, as_sent (frames_of h.postings), is, h.each_in, clock)

  -- ---- The book

  -- a book with these events
  abbrev book_by : (me n start : ℕ) → List Posting → BookState
  book_by me n start postings = record {
    me = me;
    nodes = n;
    start = start;
    taken = nothing_taken;
    events = map (λ p. p.event) postings;
    sent = as_sent (frames_of postings);
    fault = None;
  }

  -- the lines that were kept of a node are its book
  pub book_of : (driven : Driven) → IsDriven driven → (book : BookState) × IsBookOf driven book
  book_of driven (version, me, n, start, first, each) =
      let h = happened version (opening me n start) driven.end driven.answered each in
      let book = book_by me n start h.postings in
      let (leads, same, clock) = law me n start h.postings driven.end h.takes in
      let history : HasHistory book = record { count = first.count; member = first.member; node = driven.end.node; leads = leads } in (
        book,
        record {
          said = ((version, first), says_each h.postings (kept_of driven.answered) h.answers);
          read_in = (version, λ before. inl (version, me, n, start, first, reads_each version (lines_of (kept_of driven.answered)) (map (λ event. event.kind) (map (λ p. p.event) h.postings)) h.each_in));
          is_read = record {
            history = history;
            whole = refl;
            no_fault = refl;
            kept = All-map (λ sent. sent.lost ≡ false) (λ frame. record { frame = frame; lost = false }) (frames_of h.postings) (λ k d low. refl);
          };
          leads = leads;
          clock_is = clock;
          answers = subst (λ (ps : List Posting). AllZip IsAnswerTo ps (kept_of driven.answered)) (sym same) h.answers;
        },
      )

-- ---- Several books

zip_append : (ls ms : List (List ℕ)) (vs bs : List Said) → AllZip Says ls vs → AllZip Says ms bs → AllZip Says (ls ++ ms) (vs ++ bs)
zip_append [] ms [] bs g h = h
zip_append [] ms (v ∷ vs) bs g h = absurd g
zip_append (l ∷ ls) ms [] bs g h = absurd g
zip_append (l ∷ ls) ms (v ∷ vs) bs g h = (g.0, zip_append ls ms vs bs g.1 h)

all_said_by : (driven : List Driven) (books : List BookState) → AllZip IsBookOf driven books
    → AllZip Says (all_book_lines driven) (flat_map said_by books) × All IsRead books
all_said_by [] [] h = (tt, All-nil IsRead)
all_said_by [] (b ∷ books) h = absurd h
all_said_by (d ∷ driven) [] h = absurd h
all_said_by (d ∷ driven) (b ∷ books) h =
    let rest = all_said_by driven books h.1 in
    (zip_append (book_lines d) (all_book_lines driven) (said_by b) (flat_map said_by books) h.0.said rest.0, All-cons IsRead b books h.0.is_read rest.1)

-- each line is read in the version of its book
reads_all : (driven : List Driven) (books : List BookState) → AllZip IsBookOf driven books → (before : BookVersion) → (version : BookVersion) × AreReadIn before (all_book_lines driven) version
reads_all [] [] h before = (before, refl)
reads_all [] (b ∷ books) h before = absurd h
reads_all (d ∷ driven) [] h before = absurd h
reads_all (d ∷ driven) (b ∷ books) h before =
    let here = h.0.read_in in
    let rest = reads_all driven books h.1 here.0 in
    (rest.0, reads_append (book_lines d) (all_book_lines driven) before here.0 rest.0 (here.1 before) rest.1)

-- the books of nodes are right if they are beside each other
pub are_right : (driven : List Driven) (books : List BookState) → AllZip IsBookOf driven books → AreBeside books → AreRight (all_book_lines driven) books
are_right driven books h beside =
    let said = all_said_by driven books h in
    let reads = reads_all driven books h One in
    record { version = reads.0; read_in = reads.1; lines_are = said.0; each = said.1; beside = beside }

module _ (law : TakenIsHistory) (lines : LineLaws) (histories : HistoryLaws) where
  each_book : (driven : List Driven) → All IsDriven driven → (books : List BookState) × AllZip IsBookOf driven books
  each_book [] h = ([], tt)
  each_book (d ∷ driven) h =
      let one = book_of law d (All-head IsDriven d driven h) in
      let rest = each_book driven (All-tail IsDriven d driven h) in
      (one.0 ∷ rest.0, (one.1, rest.1))

  -- what is read of them is their books
  pub read_as : (driven : List Driven) (books : List BookState) → All IsDriven driven → AreRight (all_book_lines driven) books → AllZip IsBookOf driven books
  read_as driven books each right =
      let (own, are) = each_book driven each in
      let (said, read) = all_said_by driven own are in
      let same : own ≡ books = books_once histories own books read right.each
      (all_said lines (all_book_lines driven) (flat_map said_by own) (flat_map said_by books) said right.lines_are) in
      subst (AllZip IsBookOf driven) same are

  pub settles_as : (repeats : Bool) (driven : List Driven) (input : List ℕ) (text : SettledText) (settled : IsSettledText repeats input text) → All IsDriven driven
      → IsText input (all_book_lines driven) → AllZip IsBookOf driven settled.books
  settles_as repeats driven input text settled each is =
      read_as driven settled.books each
      (subst (λ (ls : List (List ℕ)). AreRight ls settled.books) (one_text input settled.lines (all_book_lines driven) settled.is_text is) settled.whole.right)
