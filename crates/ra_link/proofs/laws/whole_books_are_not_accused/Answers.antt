use Rattle.ra_link.proofs.Honest.{never_accused}
use Rattle.ra_link.proofs.laws.whole_books_are_not_accused.Goals as goal

pub returns : goal.returns
returns c = never_accused
