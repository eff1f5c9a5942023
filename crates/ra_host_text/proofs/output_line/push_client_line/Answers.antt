use Rattle.ra_text.proofs.Drafts.{adds_both}
use Rattle.ra_host_text.proofs.output_line.push_client_line.Goals as goal

pub returns : goal.returns
returns c = adds_both (adds_both c.push_client.ensures c.push_field.ensures) c.end_line.ensures
