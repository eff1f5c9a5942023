use Rattle.ra_book.proofs.Kept.{history_of}
use Rattle.ra_book.proofs.book.Book.events.Goals as goal

pub returns-clause-history : goal.returns-clause-history
returns-clause-history c = history_of c.args.self.now _ _ c.self.invariant.keeps c.self.view_is
