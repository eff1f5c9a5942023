use Rattle.ra_book.proofs.CutBooks.{cut_book, come_first, sent_first, cut_again, cut_nothing}
use Rattle.ra_book.proofs.laws.cut_books.books_can_be_cut.Goals as goal

pub returns : goal.returns
returns c =
    record {
      history = cut_book;
      whole = λ count book whole. whole;
      come = come_first;
      sent = λ count node book whole history. sent_first count book whole history node;
      again = λ first count book whole history. cut_again count book whole history first;
      all = cut_nothing;
    }
