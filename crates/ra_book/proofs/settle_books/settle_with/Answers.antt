use Rattle.std.proofs.Common.{◌≡◌, ◌++◌, List, map, ◌∙◌, ap, sym, subst, length}
use Rattle.ra_world.specs.declared.step.Step.{Step}
use Rattle.ra_world.specs.declared.step.Step.TheVariants.{Lose}
use Rattle.ra_world.specs.Run.{WorldRun}
use Rattle.ra_book.specs.declared.error.SettleError.TheVariants.{Memory}
use Rattle.ra_book.specs.Settled.{all_lost, settled_steps, start_of}
use Rattle.ra_book.specs.SettlingParts.{Refuses}
use Rattle.ra_book.proofs.Causes.{refused}
use Rattle.ra_book.proofs.SettledReport.{settles, grants_settle, grants_refused}
use Rattle.ra_book.proofs.SettlingLaws.{fitting_books_settle, settled_steps_make_settled_runs, grants_are_in_the_books}
use Rattle.ra_book.proofs.settle_books.settle_with.Goals as goal

-- ---- Memory runs out

pub returns-in_err-steps : goal.returns-in_err-steps
returns-in_err-steps c = refused _ (Refuses c.args.books.now c.args.grants.now) Memory c.requires.fit.0 c.from_residual.result c.from_residual.ensures.1

pub returns-in_err-push_losses : goal.returns-in_err-push_losses
returns-in_err-push_losses c =
    refused _ (Refuses c.args.books.now c.args.grants.now) Memory c.requires.fit.0 c.from_residual-in_err-push_losses.result c.from_residual-in_err-push_losses.ensures.1

pub returns-in_err-settled : goal.returns-in_err-settled
returns-in_err-settled c =
    let why = Refuses c.args.books.now c.args.grants.now in
    refused _ why c.in_err-settled.field-0.0 (subst why (sym c.in_err-settled.ensures) c.requires.fit.0) c.from_residual-in_err-settled.result c.from_residual-in_err-settled.ensures.1

-- ---- The steps are a run, since what the books say fits together

pub run_steps-requires : goal.run_steps-requires
run_steps-requires c =
    let books = c.args.books.now in
    let placed = c.in_ok-steps.ensures.0 in
    let are : c.push_losses.new.steps.items ≡ settled_steps books placed = c.in_ok-push_losses.ensures.ok ∙ ap (λ (xs : List Step). xs ++ map (λ m. Lose m) (all_lost books)) c.in_ok-steps.ensures.2 in
    let runs = fitting_books_settle books placed c.requires.cluster c.in_ok-push_losses.ensures.histories c.in_ok-steps.ensures.1 c.requires.fit in
    record { cluster = c.requires.cluster; run = subst (WorldRun (length books) (start_of books)) (sym are) runs }

-- ---- The grants

pub returns-in_err-check_grants : goal.returns-in_err-check_grants
returns-in_err-check_grants c =
    let books = c.args.books.now in
    let placed = c.in_ok-steps.ensures.0 in
    let steps = c.push_losses.new.steps.items in
    let are : steps ≡ settled_steps books placed = c.in_ok-push_losses.ensures.ok ∙ ap (λ (xs : List Step). xs ++ map (λ m. Lose m) (all_lost books)) c.in_ok-steps.ensures.2 in
    let settled = settles settled_steps_make_settled_runs books c.requires.cluster c.in_ok-push_losses.ensures.histories placed steps c.in_ok-settled.settled c.in_ok-steps.ensures.1 are c.in_ok-settled.ensures in
    let e = c.in_err-check_grants.field-0.0 in
    refused _ (Refuses c.args.books.now c.args.grants.now) e
    (grants_refused grants_are_in_the_books c.args.books.now c.requires.cluster c.args.grants.now c.in_ok-settled.settled settled
    c.as_slice.result.now c.as_slice.ensures c.requires.fit e c.in_err-check_grants.ensures)
    c.from_residual-in_err-check_grants.result c.from_residual-in_err-check_grants.ensures.1

pub returns : goal.returns
returns c =
    let books = c.args.books.now in
    let placed = c.in_ok-steps.ensures.0 in
    let steps = c.push_losses.new.steps.items in
    let are : steps ≡ settled_steps books placed = c.in_ok-push_losses.ensures.ok ∙ ap (λ (xs : List Step). xs ++ map (λ m. Lose m) (all_lost books)) c.in_ok-steps.ensures.2 in
    let settled = settles settled_steps_make_settled_runs books c.requires.cluster c.in_ok-push_losses.ensures.histories placed steps c.in_ok-settled.settled c.in_ok-steps.ensures.1 are c.in_ok-settled.ensures in
    grants_settle grants_are_in_the_books c.args.books.now c.requires.cluster c.args.grants.now c.in_ok-settled.settled settled
    c.as_slice.result.now c.as_slice.ensures c.requires.fit c.in_ok-check_grants.ensures
