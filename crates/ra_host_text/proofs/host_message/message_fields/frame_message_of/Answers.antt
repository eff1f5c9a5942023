use Rattle.ra_host_text.proofs.Messages.{frame_only, no_digits, no_fields}
use Rattle.ra_host_text.proofs.host_message.message_fields.frame_message_of.Goals as goal

pub returns-in_err-start : goal.returns-in_err-start
returns-in_err-start c = rw c.from_residual.ensures (no_fields c.args.text.now c.in_err-start.ensures)

pub returns-in_err-frame : goal.returns-in_err-frame
returns-in_err-frame c =
    rw c.from_residual-in_err-frame.ensures
    (no_digits c.args.text.now c.in_ok-start.digits.now c.in_ok-start.start c.in_ok-start.number c.in_ok-start.ensures c.in_err-frame.ensures)

pub returns : goal.returns
returns c =
    frame_only c.args.text.now c.in_ok-start.digits.now c.in_ok-start.start c.in_ok-start.number c.in_ok-frame.frame c.in_ok-start.ensures c.in_ok-frame.ensures
