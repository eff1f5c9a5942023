use Rattle.ra_book.proofs.FirstParts.{cut_history}
use Rattle.ra_book.proofs.laws.cut_books.histories_can_be_cut.Goals as goal

pub returns : goal.returns
returns c = cut_history
