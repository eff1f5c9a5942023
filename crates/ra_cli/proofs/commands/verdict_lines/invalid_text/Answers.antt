use Rattle.std.proofs.Common.{[]}
use Rattle.ra_text.proofs.Drafts.{adds_both}
use Rattle.ra_cli.proofs.commands.verdict_lines.invalid_text.Goals as goal

pub returns : goal.returns
returns c =
    let all = adds_both (adds_both (adds_both c.push.ensures c.push_number.ensures) c.push_field.ensures) c.end_line.ensures in
    c.finish.ensures.text _ (all.says [] c.new-text.ensures.says)
