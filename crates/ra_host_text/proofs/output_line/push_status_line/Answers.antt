use Rattle.std.proofs.Common.{◌++◌, append_assoc, codes}
use Rattle.std.specs.Prelude.{decimal}
use Rattle.ra_text.specs.Lines.{field}
use Rattle.ra_text.proofs.Drafts.{adds_as, adds_both}
use Rattle.ra_host_text.specs.StatusText.{status_text}
use Rattle.ra_host_text.proofs.output_line.push_status_line.Goals as goal

pub returns : goal.returns
returns c =
    adds_both
    (adds_as (adds_both (adds_both c.push_client.ensures c.push.ensures) c.push-2.ensures.text)
    (append_assoc (codes "client" ++ field (decimal c.args.client)) (codes " ") (status_text c.args.line.now))) c.end_line.ensures
