use Rattle.ra_book_text.proofs.OneVerdict.{fit_not_wrong, one_wrong}
use Rattle.ra_book_text.proofs.laws.text_verdicts.each_text_of_books_has_one_verdict.Goals as goal

pub returns-clause-fit : goal.returns-clause-fit
returns-clause-fit c = λ repeats text line cause.
    fit_not_wrong (record {
      lines = c.texts_of_books_are_read_in_one_way.ensures.lines;
      books = c.texts_of_books_are_read_in_one_way.ensures.books;
      version = c.texts_of_books_are_read_in_one_way.ensures.version;
      right = c.texts_of_books_are_read_in_one_way.ensures.right;
      apart = c.texts_of_books_are_read_in_one_way.ensures.cause;
    }) text repeats line cause

pub returns-clause-wrong : goal.returns-clause-wrong
returns-clause-wrong c = λ repeats text line other cause why.
    one_wrong (record {
      lines = c.texts_of_books_are_read_in_one_way.ensures.lines;
      books = c.texts_of_books_are_read_in_one_way.ensures.books;
      version = c.texts_of_books_are_read_in_one_way.ensures.version;
      right = c.texts_of_books_are_read_in_one_way.ensures.right;
      apart = c.texts_of_books_are_read_in_one_way.ensures.cause;
    }) text repeats line other cause why
