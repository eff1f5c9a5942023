use Rattle.std.proofs.Common.{sym, ap}
use Rattle.ra_world.specs.StateLines.{use_fields}
use Rattle.ra_text.proofs.Drafts.{adds_as}
use Rattle.ra_world.proofs.StateTexts.{use_waiting, use_holding, use_nobody}
use Rattle.ra_world.proofs.text.state_lines.push_use.Goals as goal

pub returns-in-Some : goal.returns-in-Some
returns-in-Some c = adds_as c.push_request.ensures (ap use_fields (sym (use_waiting _ _ (sym c.in-Some.ensures.value))))

pub returns-in-Some-holder : goal.returns-in-Some-holder
returns-in-Some-holder c = adds_as c.push_request-in-Some-holder.ensures (ap use_fields (sym (use_holding _ _ (sym c.in-Some-holder.ensures.value))))

pub returns : goal.returns
returns c = adds_as c.push_field.ensures (ap use_fields (sym (use_nobody _ (sym c.in_default.ensures.value) (sym c.in_default-holder.ensures.value))))
