use Rattle.std.proofs.Common.{[]}
use Rattle.ra_serve.specs.Opening.{second_words}
use Rattle.ra_serve.proofs.book_opening.second_words.Goals as goal

pub returns : goal.returns
returns c = c.finish.ensures.text (second_words c.args.settings.now) (c.push_words.ensures.says [] c.new-text.ensures.says)
