use Rattle.ra_link.proofs.NoOld.{no_old_said}
use Rattle.ra_link.proofs.laws.no_old_is_said_of_whole_books.Goals as goal

pub returns : goal.returns
returns c = no_old_said
