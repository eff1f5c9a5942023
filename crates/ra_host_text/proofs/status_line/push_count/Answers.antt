use Rattle.ra_text.proofs.Drafts.{adds_both}
use Rattle.ra_host_text.proofs.status_line.push_count.Goals as goal

pub returns : goal.returns
returns c = adds_both c.push.ensures c.push_number.ensures
