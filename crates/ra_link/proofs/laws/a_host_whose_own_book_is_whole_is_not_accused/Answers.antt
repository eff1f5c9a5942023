use Rattle.ra_link.proofs.Own.{own_never, own_taken}
use Rattle.ra_link.proofs.laws.a_host_whose_own_book_is_whole_is_not_accused.Goals as goal

pub returns-clause-accused : goal.returns-clause-accused
returns-clause-accused c = own_never

pub returns-clause-taken : goal.returns-clause-taken
returns-clause-taken c = own_taken
