-- The lines of a text, one after the other.
use Rattle.std.proofs.Common.{◌≡◌, ℕ, ◌+◌, ◌<◌, true, List, [], ◌∷◌, ◌++◌, length, Result, Ok, Err, inl, inr, refl, sym, ap, subst, ◌∙◌, append_assoc, arith}
use Rattle.std.proofs.lemmas.List.{flat_map_more, length_push}
use Rattle.std.proofs.lemmas.List.Elements.{All-nil, All-push}
use Rattle.ra_book.specs.Book.{BookState}
use Rattle.ra_book_text.specs.Book.{lines_text}
use Rattle.ra_book_text.specs.BookText.{IsNoFirst}
use Rattle.ra_book_text.specs.declared.next_line.book_version.BookVersion.{BookVersion}
use Rattle.ra_book_text.specs.declared.next_line.book_version.BookVersion.TheVariants.{One}
use Rattle.ra_book_text.specs.Input.{HasNoFeed}
use Rattle.ra_book_text.specs.declared.text_settling.settle_error.TextCause.{TextCause}
use Rattle.ra_book_text.specs.declared.text_settling.settle_error.TextCause.TheVariants as cause
use Rattle.ra_book_text.specs.declared.text_settling.gathering.Gathered.{Gathered}
use Rattle.ra_book_text.specs.declared.text_settling.gathering.LineFault.{LineFault}
use Rattle.ra_book_text.specs.declared.text_settling.gathering.LineFault.TheVariants as line_fault
use Rattle.ra_book_text.specs.Texts.{Begins, IsRead}
use Rattle.ra_book_text.specs.Gathering.{HasGathered, IsGathered, TakesFirst, TakesLine, books_of}
use Rattle.ra_book_text.specs.Verdicts.{IsNoLine, IsWrong, IsWrongAt, IsWrongLine}
use Rattle.ra_book_text.proofs.Lines.{happened, opened}

-- nothing was read yet
pub nothing : (text : List ℕ) → Begins text [] text
nothing text = record { text_is = refl; each = All-nil HasNoFeed }

-- another line
pub one_more : (text : List ℕ) (lines : List (List ℕ)) (rest line after : List ℕ) → Begins text lines rest → rest ≡ line ++ 10 ∷ after → HasNoFeed line
    → Begins text (lines ++ line ∷ []) after
one_more text lines rest line after begins is free = record {
  text_is =
      begins.text_is ∙ ap (λ (t : List ℕ). lines_text lines ++ t) (is ∙ sym (append_assoc line (10 ∷ []) after))
      ∙ sym (append_assoc (lines_text lines) (line ++ 10 ∷ []) after)
      ∙ ap (λ (t : List ℕ). t ++ after) (flat_map_more (λ (l : List ℕ). l ++ 10 ∷ []) [] lines line);
  each = All-push HasNoFeed lines line begins.each free;
}

-- so far these lines were read, and this was gathered of them
pub record SoFar (text rest : List ℕ) (turn : ℕ) (g : Gathered) : Type 0 where
  pub lines : List (List ℕ)
  pub begins : Begins text lines rest
  pub long : length lines ≡ turn + 1
  pub gathered : IsGathered lines g

pub at_first : (text line rest : List ℕ) (g : Gathered) → Begins text (line ∷ []) rest → IsGathered (line ∷ []) g → SoFar text rest 0 g
at_first text line rest g begins gathered = record { lines = line ∷ []; begins = begins; long = refl; gathered = gathered }

pub line_more : (text rest line after : List ℕ) (turn number : ℕ) (old new : Gathered) → SoFar text rest turn old → rest ≡ line ++ 10 ∷ after → HasNoFeed line
    → number ≡ turn + 2 → TakesLine old number line new (Ok tt) → SoFar text after (turn + 1) new
line_more text rest line after turn number old new h is free number_is takes = record {
  lines = h.lines ++ line ∷ [];
  begins = one_more text h.lines rest line after h.begins is free;
  long = omega (arith, length_push h.lines line, h.long);
  gathered =
      elim takes [
        | inl o ↦ opened h.lines line old new h.gathered o
        | inr e ↦ happened h.lines line number old new h.gathered (omega (arith, number_is, h.long)) e
      ];
}

-- all of them were read
pub all_read : (text rest : List ℕ) (turn number : ℕ) (g : Gathered) → SoFar text rest turn g → HasNoFeed rest → number ≡ turn + 2 → HasGathered text g number
all_read text rest turn number g h free number_is = record {
  lines = h.lines;
  is_text = (rest, h.begins, free);
  gathered = h.gathered;
  next_is = omega (arith, number_is, h.long);
}

-- ---- A wrong line

wrong_at : (text : List ℕ) (number : ℕ) (why : TextCause) → IsWrongAt text number why → IsWrong true text number why
wrong_at text number cause.Line at = inr at
wrong_at text number cause.Books at = inl at
wrong_at text number cause.Refused at = at
wrong_at text number cause.NotSent at = absurd at.wrong
wrong_at text number cause.Twice at = absurd at.wrong

pub line_wrong : (text rest line after : List ℕ) (turn number : ℕ) (why : TextCause) (old new : Gathered) → SoFar text rest turn old → rest ≡ line ++ 10 ∷ after
    → HasNoFeed line → number ≡ turn + 2 → TakesLine old number line new (Err (line_fault.Wrong why)) → IsWrong true text number why
line_wrong text rest line after turn number why old new h is free number_is wrong = wrong_at text number why (record {
  before = h.lines;
  line = line;
  rest = after;
  begins = one_more text h.lines rest line after h.begins is free;
  number_is = omega (arith, number_is, h.long);
  books = books_of old;
  right = h.gathered.right;
  wrong = subst (λ (v : BookVersion). IsWrongLine v (books_of old) line why) h.gathered.version_is wrong;
})

-- the first line does not begin a book
pub no_beginning : (text line rest : List ℕ) → Begins text (line ∷ []) rest → IsNoFirst line → IsWrong true text 1 cause.Line
no_beginning text line rest begins not_first = inr (record {
  before = [];
  line = line;
  rest = rest;
  begins = begins;
  number_is = refl;
  books = [];
  right = record { version = One; read_in = refl; lines_are = tt; each = All-nil IsRead; beside = λ i j d low within. absurd (omega (arith, within)) };
  wrong = (not_first, inl refl);
})

-- ---- What is said of a line

-- it is too long
pub too_long : (version : BookVersion) (books : List BookState) (line : List ℕ) → 256 < length line → IsNoLine version books line
too_long version books line long = (λ own node nodes start is. omega (arith, long, is.short), inr (inl (λ form is. omega (arith, long, is.0))))

pub takes_first : (old new : Gathered) (number : ℕ) (line : List ℕ) (r : Result (Unit {0}) LineFault) → TakesFirst old line new r → TakesLine old number line new r
takes_first old new number line (Ok done) h = inl h
takes_first old new number line (Err (line_fault.Wrong why)) h = h
takes_first old new number line (Err line_fault.Memory) h = inl h
