use Rattle.std.proofs.Common.{ap}
use Rattle.ra_text.specs.Lines.{field}
use Rattle.ra_text.proofs.Drafts.{adds_as, adds_both}
use Rattle.ra_serve.proofs.book_opening.push_words.Goals as goal

pub returns : goal.returns
returns c = adds_both (adds_both c.push.ensures (adds_as c.push_field.ensures (ap field c.as_str.ensures))) c.push-2.ensures
