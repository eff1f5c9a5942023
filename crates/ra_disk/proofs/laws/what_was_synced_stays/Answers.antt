use Rattle.ra_disk.proofs.BookLemmas.{stays, all_synced}
use Rattle.ra_disk.proofs.laws.what_was_synced_stays.Goals as goal

pub returns-clause-stays : goal.returns-clause-stays
returns-clause-stays c = stays

pub returns-clause-all : goal.returns-clause-all
returns-clause-all c = all_synced
