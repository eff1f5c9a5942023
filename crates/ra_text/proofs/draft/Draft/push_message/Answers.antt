use Rattle.std.proofs.Common.{sym, ap}
use Rattle.ra_text.specs.Lines.{field, message_fields}
use Rattle.ra_text.proofs.Drafts.{adds_as, adds_both}
use Rattle.ra_text.proofs.draft.Draft.push_message.Goals as goal

pub returns-in-Request : goal.returns-in-Request
returns-in-Request c =
    adds_as (adds_both (adds_both c.push_ends.ensures (adds_as c.push_field.ensures (ap field c.word.ensures))) c.push_number.ensures)
    (sym (ap message_fields c.in-Request.is))

pub returns-in-Reply : goal.returns-in-Reply
returns-in-Reply c =
    adds_as (adds_both c.push_ends-in-Reply.ensures c.push_number-in-Reply.ensures) (sym (ap message_fields c.in-Reply.is))
