use Rattle.ra_book.proofs.TimedHistories.{has_history, has_taken}
use Rattle.ra_book.proofs.laws.timed_histories.timed_nodes_have_histories.Goals as goal

pub returns-clause-history : goal.returns-clause-history
returns-clause-history c = has_history

pub returns-clause-taken : goal.returns-clause-taken
returns-clause-taken c = has_taken
