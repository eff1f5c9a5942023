use Rattle.std.proofs.Common.{[]}
use Rattle.ra_text.specs.Lines.{mark_line}
use Rattle.ra_text.proofs.lines.mark_line.Goals as goal

pub returns : goal.returns
returns c = c.finish.ensures.text (mark_line c.args.mark.now) (c.push_mark_line.ensures.says [] c.new-line.ensures.says)
