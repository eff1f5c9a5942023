use Rattle.std.proofs.Common.{◌≡◌, ◌+◌, arith, refl}
use Rattle.ra_stamp.specs.Message.{from_of}
use Rattle.ra_book.specs.declared.book.event.BookKind.TheVariants.{Receive}
use Rattle.ra_audit.proofs.AuditSteps.{due_of_some, due_of_none}
use Rattle.ra_audit.proofs.auditor.put_events.is_reached.Goals as goal

pub returns-in-Some : goal.returns-in-Some
returns-in-Some c =
    let place = c.place.result in
    let frame = c.args.frame.now in
    let number : place + 1 ≡ from_of frame.message = omega (arith, c.place.ensures.value, c.place.ensures.valid.0, c.from.ensures) in
    due_of_some c.args.nodes.now (Receive frame) frame c.requires.0 place c.clock.result c.in-Some.progress.now c.requires.1 number
    c.in-Some.ensures.lookup.0 c.in-Some.ensures.lookup.1 c.clock.ensures refl

pub returns-in-None : goal.returns-in-None
returns-in-None c =
    let place = c.place.result in
    let frame = c.args.frame.now in
    let number : place + 1 ≡ from_of frame.message = omega (arith, c.place.ensures.value, c.place.ensures.valid.0, c.from.ensures) in
    due_of_none c.args.nodes.now (Receive frame) frame c.requires.0 place c.requires.1 number c.in-None.ensures.lookup.0 refl
