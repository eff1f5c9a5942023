use Rattle.ra_book.specs.Keeping.{book_of}
use Rattle.ra_book.proofs.Kept.{history_of}
use Rattle.ra_book.proofs.Running.{runs_is, some_fault, no_fault, ask_failed, ask_refused}
use Rattle.ra_book.proofs.KeptLaws.{kept_histories_go_on}
use Rattle.ra_book.proofs.book.Book.ask_refusal.Goals as goal

pub returns-then-is_some-clause-refused : goal.returns-then-is_some-clause-refused
returns-then-is_some-clause-refused c = ask_failed c.args.self.now c.args.client c.args.name c.args.mode (some_fault c.self.view_is c.if-is_some.ensures)

pub returns-then-is_some-clause-history : goal.returns-then-is_some-clause-history
returns-then-is_some-clause-history c = history_of c.args.self.now _ _ c.self.invariant.keeps c.self.view_is

pub returns-clause-refused : goal.returns-clause-refused
returns-clause-refused c =
    ask_refused c.args.self.now c.args.client c.args.name c.args.mode c.self.inside.node (no_fault c.self.view_is c.if-is_some.ensures)
    (runs_is kept_histories_go_on.determined c.args.self.now (book_of c.self.inside) c.self.inside.node c.self.invariant.keeps c.self.view_is)
    c.clock.result c.clock.ensures.value c.event_refusal.result c.event_refusal.ensures

pub returns-clause-history : goal.returns-clause-history
returns-clause-history c = history_of c.args.self.now _ _ c.self.invariant.keeps c.self.view_is
