use Rattle.ra_text.proofs.Drafts.{adds_both}
use Rattle.ra_serve.proofs.notes.end_note.Goals as goal

pub returns : goal.returns
returns c = adds_both (adds_both c.push.ensures c.push_number.ensures) c.end_line.ensures
