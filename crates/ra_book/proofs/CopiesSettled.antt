-- What is said of settling with copies, clause by clause.
use Rattle.std.proofs.Common.{◌≡◌, List, [], ◌++◌, map, length, sym, ap, ◌∙◌, subst}
use Rattle.std.specs.Prelude.{All, ◌↔◌, IfOk, IsErrOf, IsOkUnless, MatchResult, Result, Ok, Err}
use Rattle.std.proofs.lemmas.List.{append-nil}
use Rattle.ra_world.specs.declared.step.Step.{Step}
use Rattle.ra_world.specs.declared.step.Step.TheVariants.{Lose}
use Rattle.ra_world.specs.Traffic.{Move}
use Rattle.ra_world.specs.World.{Reports}
use Rattle.ra_world.specs.MainTheorem.{MainTheorem}
use Rattle.ra_book.specs.declared.error.SettleError.{SettleError}
use Rattle.ra_book.specs.declared.error.SettleError.TheVariants.{NotSent, Memory}
use Rattle.ra_book.specs.declared.settle_books.settled.Settled.{Settled}
use Rattle.ra_book.specs.Book.{BookState, HasHistory}
use Rattle.ra_book.specs.Settled.{IsCluster, IsSettledOrder, Placed, HasUnsent, all_lost, start_of}
use Rattle.ra_book.specs.Repeats.{AreWithCopies, IsSettledRunWithCopies}
use Rattle.ra_book.specs.SettlingParts.{BooksSettleWithCopies, HasRun, SettlesWithCopies}

-- if nothing is lost, no losses are added
pub no_losses : (books : List BookState) (steps more : List Step) → all_lost books ≡ [] → more ≡ steps ++ map (λ m. Lose m) (all_lost books) → more ≡ steps
no_losses books steps more none is = is ∙ ap (λ ms. steps ++ map (λ m. Lose m) ms) none ∙ append-nil steps

pub settles_with_copies : BooksSettleWithCopies → (books : List BookState) → IsCluster books → All HasHistory books → (placed : List Placed) (steps : List Step) (settled : Settled) → IsSettledOrder books placed
    → AreWithCopies placed steps → HasRun books steps settled → SettlesWithCopies books settled
settles_with_copies laws books cluster histories placed steps settled order with_copies has =
    record {
      moves = has.moves;
      moves_are = has.moves_are ∙ sym has.steps_are;
      run = laws.settled books placed has.moves cluster histories order has.run (subst (AreWithCopies placed) (sym has.moves_are) with_copies);
      reports = has.reports;
      main = has.main;
    }

module _ (books : List BookState) where
  abbrev pub Whole : Result Settled SettleError → Type 0
  Whole r = MatchResult r (SettlesWithCopies books) (λ e. e ≡ Memory)

  pub settled_run : (r : Result Settled SettleError) → Whole r
      → IfOk r (λ settled. (moves : List Move) × (map (λ move. move.step) moves ≡ settled.steps.items)
      × IsSettledRunWithCopies books moves × Reports (length books) (start_of books) moves settled.report)
  settled_run (Ok s) whole = (whole.moves, whole.moves_are, whole.run, whole.reports)
  settled_run (Err e) whole = tt

  pub main_theorem : (r : Result Settled SettleError) → Whole r → IfOk r (λ settled. MainTheorem (length books) settled.report)
  main_theorem (Ok s) whole = whole.main
  main_theorem (Err e) whole = tt

  pub not_sent : (r : Result Settled SettleError) → Whole r → (HasUnsent books → ⊥) → HasUnsent books ↔ IsErrOf r NotSent
  not_sent (Ok s) whole sent = (λ unsent. absurd (sent unsent), λ is. absurd (cc))
  not_sent (Err e) whole sent = (λ unsent. absurd (sent unsent), λ is. absurd (cc))

  pub settles : (r : Result Settled SettleError) → Whole r → IsOkUnless r Memory
  settles (Ok s) whole = tt
  settles (Err e) whole = whole
