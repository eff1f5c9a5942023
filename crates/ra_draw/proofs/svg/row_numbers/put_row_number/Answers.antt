use Rattle.std.proofs.Common.{◌+◌, ℕ, ap}
use Rattle.std.specs.Prelude.{decimal}
use Rattle.ra_draw.proofs.Additions.{adds_as, adds_both}
use Rattle.ra_draw.proofs.svg.row_numbers.put_row_number.Goals as goal

pub returns : goal.returns
returns c =
    let y = adds_as c.put_number-2.ensures (ap (λ (n : ℕ). decimal (n + 4)) c.y.ensures) in
    let start = adds_both (adds_both c.put.ensures c.put_number.ensures) c.put-2.ensures in
    adds_both (adds_both (adds_both (adds_both start y) c.put-3.ensures) c.put_number-3.ensures) c.put-4.ensures
