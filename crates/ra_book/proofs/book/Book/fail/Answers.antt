use Rattle.std.proofs.Common.{Some, ap, ◌∙◌}
use Rattle.std.specs.Prelude.{unwrap_or}
use Rattle.ra_book.specs.declared.book.stop.Stop.{Stop}
use Rattle.ra_book.specs.Book.{BookState}
use Rattle.ra_book.proofs.Kept.{faulty_history}
use Rattle.ra_book.specs.Keeping.{book_of}
use Rattle.ra_book.proofs.book.Book.fail.Goals as goal

pub returns-clause-history : goal.returns-clause-history
returns-clause-history c = faulty_history (book_of c.self.inside) _ _ c.self.invariant.keeps

pub returns-clause-value : goal.returns-clause-value
returns-clause-value c =
    ap (λ (s : Stop). record (book_of c.self.inside) { fault = Some s }) c.unwrap_or.ensures
    ∙ ap (λ (b : BookState). record b { fault = Some (unwrap_or b.fault c.args.stop) }) c.self.view_is
