use Rattle.std.proofs.Common.{List, subst}
use Rattle.std.specs.Prelude.{◌↔◌, IsErrOf}
use Rattle.ra_book.specs.Book.{BookState}
use Rattle.ra_book_text.specs.Gathering.{AreSentInCluster, IsMadeOf}
use Rattle.ra_book_text.specs.Verdicts.{IsMissing}
use Rattle.ra_book_text.specs.declared.text_settling.settle_error.SettleTextError.TheVariants as fault
use Rattle.ra_book_text.specs.declared.text_settling.settle_error.TextCause.TheVariants as cause
use Rattle.ra_book_text.proofs.text_settling.settle_gathered.Goals as goal

pub push_reserved-requires : goal.push_reserved-requires
push_reserved-requires c = c.requires.1.room

pub settle_books-requires : goal.settle_books-requires
settle_books-requires c =
    let made : IsMadeOf c.args.gathered c.push_reserved.new.self.items c.as_slice.result.now = record {
      books_are = c.push_reserved.ensures.items;
      came_are = c.as_slice.ensures;
    } in
    (c.args.gathered, made, c.requires)

pub returns-clause-verdict : goal.returns-clause-verdict
returns-clause-verdict c text h =
    let made : IsMadeOf c.args.gathered c.push_reserved.new.self.items c.as_slice.result.now = record {
      books_are = c.push_reserved.ensures.items;
      came_are = c.as_slice.ensures;
    } in
    c.settle_books.ensures.verdict text c.args.gathered made h

pub returns-clause-missing : goal.returns-clause-missing
returns-clause-missing c =
    subst (λ (bs : List BookState). IsErrOf c.settle_books.result (fault.Invalid c.args.next cause.Books) ↔ IsMissing bs) c.push_reserved.ensures.items
    c.settle_books.ensures.missing

pub returns-clause-memory : goal.returns-clause-memory
returns-clause-memory c is = subst AreSentInCluster c.push_reserved.ensures.items (c.settle_books.ensures.memory is)
