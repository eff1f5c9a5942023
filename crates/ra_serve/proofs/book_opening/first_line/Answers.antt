use Rattle.std.proofs.Common.{[]}
use Rattle.ra_serve.specs.Opening.{first_line}
use Rattle.ra_serve.proofs.book_opening.first_line.Goals as goal

pub returns : goal.returns
returns c = c.finish.ensures.text (first_line c.args.settings.now) (c.push_first.ensures.says [] c.new-text.ensures.says)
