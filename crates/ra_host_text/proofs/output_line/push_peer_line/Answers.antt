use Rattle.std.proofs.Common.{◌++◌, ap, append_assoc, codes, ℕ}
use Rattle.std.specs.Prelude.{decimal}
use Rattle.ra_text.specs.Lines.{field}
use Rattle.ra_text.proofs.Drafts.{adds_as, adds_both}
use Rattle.ra_host_text.proofs.output_line.push_peer_line.Goals as goal

pub returns-clause-ok : goal.returns-clause-ok
returns-clause-ok c =
    let to = adds_as c.push_number.ensures (ap (λ (n : ℕ). field (decimal n)) c.get.ensures.value) in
    let (line, is, adds) = c.push_fitting.ensures in (
      line,
      is,
      adds_both
          (adds_as (adds_both (adds_both (adds_both c.push.ensures to) c.push-2.ensures) adds)
          (append_assoc (codes "peer" ++ field (decimal c.args.said.now.to)) (codes " ") line)) c.end_line.ensures,
    )
