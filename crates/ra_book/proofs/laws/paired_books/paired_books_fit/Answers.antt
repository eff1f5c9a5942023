use Rattle.ra_book.proofs.SettlingLaws as laws
use Rattle.ra_book.proofs.laws.paired_books.paired_books_fit.Goals as goal

pub returns : goal.returns
returns c = record { fit = laws.paired_books_fit; run = laws.paired_books_settle }
