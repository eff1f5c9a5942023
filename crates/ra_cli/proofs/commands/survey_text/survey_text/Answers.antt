use Rattle.std.proofs.Common.{[]}
use Rattle.ra_text.proofs.Drafts.{adds_both}
use Rattle.ra_cli.proofs.commands.survey_text.survey_text.Goals as goal

pub returns : goal.returns
returns c =
    let ends = adds_both (adds_both c.push_tally.ensures c.push_tally-2.ensures) c.push_tally-3.ensures in
    let all = adds_both (adds_both ends c.push_spread.ensures) c.push_spread-2.ensures in
    c.finish.ensures.text _ (all.says [] c.new-text.ensures.says)
