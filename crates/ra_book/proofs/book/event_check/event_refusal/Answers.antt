use Rattle.ra_book.proofs.EventChecked.{memory_lacks}
use Rattle.ra_book.proofs.book.event_check.event_refusal.Goals as goal

pub returns-in-Ok : goal.returns-in-Ok
returns-in-Ok c = memory_lacks c.args.node.now c.args.clock c.args.kind.now _ c.in-Ok.ensures.checked
