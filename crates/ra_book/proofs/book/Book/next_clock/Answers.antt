use Rattle.ra_book.proofs.Running.{no_fault, next_is_ok}
use Rattle.ra_book.proofs.book.Book.next_clock.Goals as goal

pub returns : goal.returns
returns c =
    next_is_ok c.args.self.now c.args.kind.now (no_fault c.self.view_is c.if-is_some.ensures) c.clock.result c.clock.ensures.value c.clock_after.result
    c.clock_after.ensures c.ok.result c.ok.ensures.value
