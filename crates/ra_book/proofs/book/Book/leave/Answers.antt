use Rattle.ra_book.proofs.Endings.{nobody_holds}
use Rattle.ra_book.proofs.book.Book.leave.Goals as goal

pub returns-clause-not_held : goal.returns-clause-not_held
returns-clause-not_held c =
    let none = c.end.ensures.answers.no_request in
    let ways = nobody_holds c.args.self.now c.args.client c.args.name in
    (λ is. ways.0 (none.0 is), λ runs. none.1 (ways.1 runs))
