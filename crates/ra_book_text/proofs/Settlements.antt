-- Into what books settle, with copies and without, and why they are refused.
use Rattle.std.proofs.Common.{◌≡◌, Bool, true, false, cond, List, [], ◌∷◌, ◌++◌, map, length, refl, sym, ap, ◌∙◌}
use Rattle.std.specs.Prelude.{◌↔◌, All, IfOk, OnOk, IsErrOf, IsOkUnless, MatchResult, Result, Ok, Err}
use Rattle.std.specs.List.{filter}
use Rattle.std.proofs.lemmas.List.Elements.{All-head, All-tail}
use Rattle.ra_world.specs.MainTheorem.{MainTheorem}
use Rattle.ra_world.specs.Traffic.{Move}
use Rattle.ra_world.specs.World.{Reports}
use Rattle.ra_book.specs.declared.error.SettleError.{SettleError}
use Rattle.ra_book.specs.declared.error.SettleError.TheVariants.{NotSent, Twice, Memory}
use Rattle.ra_book.specs.declared.book.sent.Sent.{Sent}
use Rattle.ra_book.specs.declared.settle_books.settled.Settled.{Settled}
use Rattle.ra_book.specs.Book.{BookState}
use Rattle.ra_book.specs.Repeats.{IsSettledRunWithCopies}
use Rattle.ra_book.specs.Settled.{BooksFit, HasUnsent, IsSettledOrder, IsSettledRun, Placed, all_lost, lost_among, settled_steps, start_of}
use Rattle.ra_book_text.specs.Gathering.{IsRefusedBy}
use Rattle.ra_book_text.specs.Texts.{IsRead}
use Rattle.ra_book_text.specs.Verdicts.{IsRunBy}

-- no frame of a book that was read is flagged lost
none_lost : (sent : List Sent) → All (λ s. s.lost ≡ false) sent → lost_among sent ≡ []
none_lost [] kept = refl
none_lost (s ∷ sent) kept =
    let rest : List Sent = filter (λ s. s.lost) sent in
    ap (λ (b : Bool). map (λ (s : Sent). s.frame.message) (cond b (s ∷ rest) rest)) (All-head (λ s. s.lost ≡ false) s sent kept)
    ∙ none_lost sent (All-tail (λ s. s.lost ≡ false) s sent kept)

pub lossless : (books : List BookState) → All IsRead books → all_lost books ≡ []
lossless [] each = refl
lossless (b ∷ books) each = (λ i. none_lost b.sent (All-head IsRead b books each).kept i ++ lossless books (All-tail IsRead b books each) i)

-- ---- The outcome of settling

is_ok : (r : Result Settled SettleError) (settled : Settled) → r ≡ Ok settled → r ≡ Err NotSent → ⊥
is_ok r settled ok err = cc

same_err : (r : Result Settled SettleError) (why other : SettleError) → r ≡ Err why → r ≡ Err other → why ≡ other
same_err r why other is also = cc

pub not_both : Twice ≡ NotSent → ⊥
not_both is = cc

not_memory : Twice ≡ Memory → ⊥
not_memory e = cc

module _ (books : List BookState) where
  pub by_copies : (r : Result Settled SettleError)
      → IfOk r (λ settled. (moves : List Move) × (map (λ move. move.step) moves ≡ settled.steps.items)
      × IsSettledRunWithCopies books moves × Reports (length books) (start_of books) moves settled.report)
      → IfOk r (λ settled. MainTheorem (length books) settled.report)
      → HasUnsent books ↔ IsErrOf r NotSent → ((HasUnsent books → ⊥) → IsOkUnless r Memory)
      → MatchResult r (IsRunBy true books) (IsRefusedBy true books)
  by_copies (Ok settled) (moves, steps_are, run, reports) main not_sent settles =
      record {
        sent = λ unsent. is_ok (Ok settled) settled refl (not_sent.0 unsent);
        moves = moves;
        steps_are = steps_are;
        run = run;
        reports = reports;
        main = main;
      }
  by_copies (Err why) run main not_sent settles = (
    ((λ is. not_sent.1 (ap Err is)), (λ unsent. same_err (Err why) why NotSent refl (not_sent.0 unsent))),
    (λ is. absurd (not_memory (sym is ∙ settles (λ unsent. not_both (sym is ∙ same_err (Err why) why NotSent refl (not_sent.0 unsent)))))),
  )

  pub by_plain : (r : Result Settled SettleError)
      → IfOk r (λ settled. (moves : List Move) × (map (λ move. move.step) moves ≡ settled.steps.items)
      × IsSettledRun books moves × Reports (length books) (start_of books) moves settled.report)
      → IfOk r (λ settled. MainTheorem (length books) settled.report)
      → IfOk r (λ settled. (placed : List Placed) × IsSettledOrder books placed × (settled.steps.items ≡ settled_steps books placed))
      → OnOk r (BooksFit books) → (IsErrOf r NotSent → HasUnsent books) → (HasUnsent books → IsErrOf r NotSent)
      → MatchResult r (IsRunBy false books) (IsRefusedBy false books)
  by_plain (Ok settled) (moves, steps_are, run, reports) main (placed, order, in_order) fit not_sent found =
      record {
        fit = fit;
        moves = moves;
        steps_are = steps_are;
        run = run;
        reports = reports;
        main = main;
        placed = placed;
        order = order;
        in_order = in_order;
      }
  by_plain (Err why) run main steps fit not_sent found = (((λ is. not_sent (ap Err is)), (λ unsent. same_err (Err why) why NotSent refl (found unsent))), (λ is. refl))
