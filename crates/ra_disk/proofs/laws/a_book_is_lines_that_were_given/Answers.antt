use Rattle.ra_disk.proofs.BookLemmas.{open_is_whole, open_was_given}
use Rattle.ra_disk.proofs.laws.a_book_is_lines_that_were_given.Goals as goal

pub returns-clause-whole : goal.returns-clause-whole
returns-clause-whole c = open_is_whole

pub returns-clause-given : goal.returns-clause-given
returns-clause-given c = open_was_given
