-- The outcome of a text is its verdict.
use Rattle.std.proofs.Common.{◌≡◌, ◌⊎◌, ℕ, Bool, true, false, List, inl, inr, refl}
use Rattle.std.specs.Prelude.{IfErr, IfOk, IsErrOf, IsOkUnless, MatchResult, OnOk, Result, Ok, Err}
use Rattle.ra_book.specs.Book.{BookState}
use Rattle.ra_book.specs.declared.settle_books.settled.Settled.{Settled}
use Rattle.ra_book_text.specs.declared.text_settling.settle_error.SettleTextError.{SettleTextError}
use Rattle.ra_book_text.specs.declared.text_settling.settle_error.SettleTextError.TheVariants as fault
use Rattle.ra_book_text.specs.declared.text_settling.settle_error.TextCause.{TextCause}
use Rattle.ra_book_text.specs.declared.text_settling.SettledText.{SettledText}
use Rattle.ra_book_text.specs.Verdicts.{FitBy, HasFittingBooks, IsRunBy, IsSettledText, IsUnsettled, IsWrong}

-- books that settle fit
fit_by : (repeats : Bool) (ordered : List BookState) (settled : Settled) → IsRunBy repeats ordered settled → FitBy repeats ordered
fit_by true ordered settled run = run.sent
fit_by false ordered settled run = run.fit

fitting : (repeats : Bool) (text : List ℕ) (settled : SettledText) → IsSettledText repeats text settled → HasFittingBooks repeats text
fitting repeats text settled is = record {
  lines = is.lines;
  books = is.books;
  ordered = is.ordered;
  is_text = is.is_text;
  whole = is.whole;
  fit = fit_by repeats is.ordered settled.settled is.settled_by.run_is;
}

module _ (repeats : Bool) (text : List ℕ) where
  abbrev Comes : Result SettledText SettleTextError → Type 0
  Comes r = MatchResult r (IsSettledText repeats text) (IsUnsettled repeats text)

  pub is_settled : (r : Result SettledText SettleTextError) → Comes r → IfOk r (IsSettledText repeats text)
  is_settled (Ok settled) is = is
  is_settled (Err why) is = tt

  pub is_refused : (r : Result SettledText SettleTextError) → Comes r → IfErr r (IsUnsettled repeats text)
  is_refused (Ok settled) is = tt
  is_refused (Err why) is = is

  pub has_fitting : (r : Result SettledText SettleTextError) → Comes r → OnOk r (HasFittingBooks repeats text)
  has_fitting (Ok settled) is = fitting repeats text settled is
  has_fitting (Err why) is = tt

  module _ (fit : (repeats : Bool) (text : List ℕ) (line : ℕ) (cause : TextCause) → HasFittingBooks repeats text → IsWrong repeats text line cause → ⊥) where
    pub settles_fitting : (r : Result SettledText SettleTextError) → Comes r → HasFittingBooks repeats text → IsOkUnless r fault.Memory
    settles_fitting (Ok settled) is fits = tt
    settles_fitting (Err fault.Memory) is fits = refl
    settles_fitting (Err (fault.Invalid line cause)) is fits = absurd (fit repeats text line cause fits is)

    module _
        (wrong : (repeats : Bool) (text : List ℕ) (line other : ℕ) (cause why : TextCause) → IsWrong repeats text line cause → IsWrong repeats text other why
        → (line ≡ other) × (cause ≡ why))
      where
        pub finds_wrong : (r : Result SettledText SettleTextError) → Comes r → (line : ℕ) (cause : TextCause) → IsWrong repeats text line cause
            → IsErrOf r (fault.Invalid line cause) ⊎ IsErrOf r fault.Memory
        finds_wrong (Ok settled) is line cause is_wrong = absurd (fit repeats text line cause (fitting repeats text settled is) is_wrong)
        finds_wrong (Err fault.Memory) is line cause is_wrong = inr refl
        finds_wrong (Err (fault.Invalid other why)) is line cause is_wrong =
            let same = wrong repeats text other line why cause is is_wrong in
            inl (λ i. Err (fault.Invalid (same.0 i) (same.1 i)))
