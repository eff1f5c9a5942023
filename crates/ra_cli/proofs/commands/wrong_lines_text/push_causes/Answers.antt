use Rattle.ra_text.proofs.Drafts.{adds_both}
use Rattle.ra_cli.proofs.commands.wrong_lines_text.push_causes.Goals as goal

pub returns : goal.returns
returns c =
    let first = adds_both (adds_both (adds_both c.push_cause.ensures c.push_cause-2.ensures) c.push_cause-3.ensures) c.push_cause-4.ensures in
    adds_both (adds_both (adds_both first c.push_cause-5.ensures) c.push_cause-6.ensures) c.push_cause-7.ensures
