use Rattle.ra_book.proofs.SettlingLaws.{fitting_books_settle_with_copies}
use Rattle.ra_book.proofs.laws.settling_with_copies.books_settle_with_copies.Goals as goal

pub returns : goal.returns
returns c = fitting_books_settle_with_copies
