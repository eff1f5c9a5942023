use Rattle.ra_book_text.proofs.Outcome.{unread_by}
use Rattle.ra_book_text.proofs.text_settling.settle_lines.Goals as goal

pub returns-in_err-gathered : goal.returns-in_err-gathered
returns-in_err-gathered c =
    unread_by _ c.args.repeats c.args.text.now c.in_err-gathered.field-0.0 c.in_err-gathered.ensures c.from_residual.result c.from_residual.ensures.1
