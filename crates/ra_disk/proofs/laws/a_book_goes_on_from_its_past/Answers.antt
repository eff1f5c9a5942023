use Rattle.ra_disk.proofs.BookLemmas.{goes_on}
use Rattle.ra_disk.proofs.laws.a_book_goes_on_from_its_past.Goals as goal

pub returns : goal.returns
returns c = goes_on
