use Rattle.std.proofs.Common.{refl, subst, inl, inr}
use Rattle.ra_stamp.specs.Name.{IsName}
use Rattle.ra_stamp.specs.NodeId.{IsNodeNumber}
use Rattle.ra_trace.proofs.line.field_ranges.step_fits.Goals as goal

pub returns-in-Ask : goal.returns-in-Ask
returns-in-Ask c =
    let node = subst IsNodeNumber c.get-in-Ask.ensures.value c.get-in-Ask.ensures.valid in
    let name = subst IsName c.bytes.ensures.value c.bytes.ensures.valid in
    elim c.in-Ask.is [
      | inl ask ↦ rw ask.1 (node, c.client_fits.ensures, name, refl)
      | inr other ↦ elim other [
        | inl leave ↦ rw leave (node, c.client_fits.ensures, name)
        | inr cancel ↦ rw cancel (refl, node, c.client_fits.ensures, name)
      ]
    ]
