use Rattle.std.proofs.Common.{[]}
use Rattle.ra_text.proofs.Drafts.{adds_both}
use Rattle.ra_cli.proofs.commands.verdict_lines.valid_text.Goals as goal

pub returns : goal.returns
returns c =
    let requests = adds_both (adds_both c.push.ensures c.push_number.ensures) c.end_line.ensures in
    let total = adds_both (adds_both c.push-2.ensures c.push_number-2.ensures) c.end_line-2.ensures in
    c.finish.ensures.text _ ((adds_both requests total).says [] c.new-text.ensures.says)
