use Rattle.std.proofs.Common.{sym, ap, ◌∙◌}
use Rattle.ra_book.specs.History.{clock_from, clock_of}
use Rattle.ra_book.specs.Book.{BookState, whole_events}
use Rattle.ra_book.proofs.Clocks.{clock_append}
use Rattle.ra_book.proofs.Kept.{history_of}
use Rattle.ra_book.proofs.book.Book.clock.Goals as goal

pub returns-clause-value : goal.returns-clause-value
returns-clause-value c =
    c.latest_of.ensures
    ∙ (λ i. clock_from (c.clock.ensures i) (c.as_slice.ensures i))
    ∙ sym (clock_append 0 c.self.inside.taken.events c.self.inside.events.items)
    ∙ ap (λ (b : BookState). clock_of (whole_events b)) c.self.view_is

pub returns-clause-history : goal.returns-clause-history
returns-clause-history c = history_of c.args.self.now _ _ c.self.invariant.keeps c.self.view_is
