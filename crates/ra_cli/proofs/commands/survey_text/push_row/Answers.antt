use Rattle.ra_text.proofs.Drafts.{adds_both}
use Rattle.ra_cli.proofs.commands.survey_text.push_row.Goals as goal

pub returns : goal.returns
returns c =
    adds_both (adds_both (adds_both (adds_both c.push.ensures c.push_number.ensures) c.push-2.ensures) c.push_number-2.ensures) c.end_line.ensures
