use Rattle.std.proofs.Common.{ap}
use Rattle.ra_text.specs.Lines.{field}
use Rattle.ra_text.proofs.Drafts.{adds_as, adds_both}
use Rattle.ra_book_text.proofs.WrittenLines.{ask_line, leave_line, cancel_line, forget_line}
use Rattle.ra_book_text.proofs.book_writing.push_event.Goals as goal

pub returns-in-Ask : goal.returns-in-Ask
returns-in-Ask c =
    let fits = c.push_client.ensures.fits in
    rw c.in-Ask.is (
      _,
      ask_line c.in-Ask.client c.in-Ask.name c.in-Ask.mode fits.0 fits.1,
      adds_both (adds_both c.push_client.ensures.text (adds_as c.push_field.ensures (ap field c.word.ensures))) c.end_line.ensures,
    )

pub returns-in-Leave : goal.returns-in-Leave
returns-in-Leave c =
    let fits = c.push_client-in-Leave.ensures.fits in
    rw c.in-Leave.is (_, leave_line c.in-Leave.client c.in-Leave.name fits.0 fits.1, adds_both c.push_client-in-Leave.ensures.text c.end_line-in-Leave.ensures)

pub returns-in-Cancel : goal.returns-in-Cancel
returns-in-Cancel c =
    let fits = c.push_client-in-Cancel.ensures.fits in
    rw c.in-Cancel.is (
      _,
      cancel_line c.in-Cancel.client c.in-Cancel.name fits.0 fits.1,
      adds_both c.push_client-in-Cancel.ensures.text c.end_line-in-Cancel.ensures,
    )

pub returns-in-Forget : goal.returns-in-Forget
returns-in-Forget c = rw c.in-Forget.is (_, forget_line, adds_both c.push.ensures c.end_line-in-Forget.ensures)

pub returns-in-Receive : goal.returns-in-Receive
returns-in-Receive c = rw c.in-Receive.is c.push_frame.ensures
