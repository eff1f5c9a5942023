use Rattle.ra_text.proofs.Drafts.{adds_both}
use Rattle.ra_text.proofs.draft.Draft.push_field.Goals as goal

pub returns : goal.returns
returns c = adds_both c.push.ensures c.push-2.ensures
