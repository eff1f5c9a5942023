use Rattle.ra_text.proofs.Drafts.{adds_both}
use Rattle.ra_host_text.proofs.status_line.push_client_since.Goals as goal

pub returns-clause-text : goal.returns-clause-text
returns-clause-text c = adds_both c.push_connection.ensures.text c.push_number.ensures
