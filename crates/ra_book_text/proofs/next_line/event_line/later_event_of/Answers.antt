use Rattle.std.proofs.Common.{codes}
use Rattle.ra_trace.proofs.Cuts.{rest_after-only}
use Rattle.ra_book_text.proofs.Forms.{cancel_told}
use Rattle.ra_book_text.proofs.next_line.event_line.later_event_of.Goals as goal

pub returns-in-Some : goal.returns-in-Some
returns-in-Some c =
    let line = c.args.line.now in
    let rest = c.in-Some.rest.now in
    cancel_told line rest c.cancel_of.result c.cancel_of.ensures (rest_after-only (codes "cancel ") line rest (rw c.in-Some.is at c.rest_after.ensures)) c.requires
