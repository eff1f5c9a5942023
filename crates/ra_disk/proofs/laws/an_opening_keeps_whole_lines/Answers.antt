use Rattle.ra_disk.proofs.BookLemmas.{opens_alone, opened_whole}
use Rattle.ra_disk.proofs.laws.an_opening_keeps_whole_lines.Goals as goal

pub returns-clause-alone : goal.returns-clause-alone
returns-clause-alone c = opens_alone

pub returns-clause-whole : goal.returns-clause-whole
returns-clause-whole c = opened_whole
