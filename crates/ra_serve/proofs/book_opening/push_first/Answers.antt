use Rattle.std.proofs.Common.{ap, ℕ, ◌∙◌}
use Rattle.std.specs.Prelude.{decimal}
use Rattle.ra_text.specs.Lines.{field}
use Rattle.ra_text.proofs.Drafts.{adds_as, adds_both}
use Rattle.ra_serve.proofs.book_opening.push_first.Goals as goal

pub returns : goal.returns
returns c =
    let number = λ (n : ℕ). field (decimal n) in
    let node = adds_as c.push_number.ensures (ap number (c.get.ensures.value ∙ c.node.ensures.value)) in
    let nodes = adds_as c.push_number-2.ensures (ap number c.nodes.ensures.value) in
    adds_both (adds_both (adds_both c.push.ensures node) nodes) c.push_number-3.ensures
