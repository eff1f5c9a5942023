use Rattle.ra_table.proofs.History.{same_entries}
use Rattle.ra_table.proofs.laws.tables_of_one_run_have_the_same_entries.Goals as goal

pub returns : goal.returns
returns c = same_entries
