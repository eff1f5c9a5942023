use Rattle.std.proofs.Common.{◌++◌, ap, append_assoc, codes, refl, subst, ℕ}
use Rattle.std.specs.Prelude.{decimal}
use Rattle.ra_stamp.specs.Name.{IsName}
use Rattle.ra_stamp.specs.NodeId.{IsNodeNumber}
use Rattle.ra_text.specs.Lines.{field}
use Rattle.ra_text.proofs.Drafts.{adds_as, adds_both}
use Rattle.ra_host_text.proofs.host_line.HostLine.push_fitting.Goals as goal

pub returns : goal.returns
returns c =
    let said = c.args.self.now in
    let number = λ (n : ℕ). field (decimal n) in
    let cluster = adds_as c.push.ensures c.as_str.ensures in
    let from = adds_as c.push_number.ensures (ap number c.get.ensures.value) in
    let to = adds_as c.push_number-2.ensures (ap number c.get-2.ensures.value) in
    let (text, is, adds) = c.push-3.ensures in (
      said.cluster ++ field (decimal said.from) ++ field (decimal said.to) ++ field text,
      record {
        cluster = subst IsName c.bytes.ensures.value c.bytes.ensures.valid;
        from = subst IsNodeNumber c.get.ensures.value c.get.ensures.valid;
        to = subst IsNodeNumber c.get-2.ensures.value c.get-2.ensures.valid;
        text = text;
        message = is;
        line_is = refl;
      },
      adds_as (adds_both (adds_both (adds_both (adds_both cluster from) to) c.push-2.ensures) adds)
          (append_assoc (said.cluster ++ field (decimal said.from) ++ field (decimal said.to)) (codes " ") text),
    )
