use Rattle.std.proofs.Common.{sym, ◌∙◌}
use Rattle.ra_book_text.proofs.OneCame.{none_unsent}
use Rattle.ra_book_text.proofs.Sent.{first_book}
use Rattle.ra_book_text.proofs.Settlements.{not_both}
use Rattle.ra_book_text.proofs.text_settling.settle_ordered.Goals as goal

pub returns-in-Ok : goal.returns-in-Ok
returns-in-Ok c =
    let books = c.args.books.now in
    let book = c.index-books-0.result in
    let first = first_book books book c.requires.cluster c.index-books-0.is in
    record {
      nodes_is = c.nodes.ensures.value ∙ first.0;
      start_is = c.start.ensures.value ∙ first.1;
      run_is = c.in-Ok.ensures;
    }

pub returns-in-Ok-Some : goal.returns-in-Ok-Some
returns-in-Ok-Some c =
    let refused = c.in-Err-Twice.ensures in
    let is = c.in-Err-Twice.field-0-is in
    (refused.1 is, (λ unsent. not_both (sym is ∙ refused.0.1 unsent)), rw c.in-Ok-Some.field-0-is at c.in-Ok-Some.ensures)

pub returns-in-None : goal.returns-in-None
returns-in-None c = none_unsent c.args.books.now c.args.came.now c.requires.came c.in-None.ensures

pub returns-in-Ok-None : goal.returns-in-Ok-None
returns-in-Ok-None c unsent = not_both (sym c.in-Err-Twice.field-0-is ∙ c.in-Err-Twice.ensures.0.1 unsent)
