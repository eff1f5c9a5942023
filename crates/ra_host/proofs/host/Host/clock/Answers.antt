use Rattle.std.proofs.Common.{sym, ◌∙◌}
use Rattle.ra_host.proofs.host.Host.clock.Goals as goal

pub returns-clause-book : goal.returns-clause-book
returns-clause-book c h are = c.clock.ensures ∙ sym are.ready.book.clock
