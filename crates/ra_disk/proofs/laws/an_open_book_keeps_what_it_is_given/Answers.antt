use Rattle.ra_disk.proofs.BookLemmas.{keeps_given}
use Rattle.ra_disk.proofs.laws.an_open_book_keeps_what_it_is_given.Goals as goal

pub returns : goal.returns
returns c = keeps_given
