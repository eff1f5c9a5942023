use Rattle.ra_disk.proofs.BookLemmas.{comes_back}
use Rattle.ra_disk.proofs.laws.a_comeback_finds_the_first_lines.Goals as goal

pub returns : goal.returns
returns c = comes_back
