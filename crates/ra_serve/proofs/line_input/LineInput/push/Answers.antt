use Rattle.std.proofs.Common.{◌≡◌, ◌-◌, ◌++◌, length, min, take, arith, ◌∙◌}
use Rattle.ra_serve.proofs.Pieces.{kept_more}
use Rattle.ra_serve.proofs.line_input.LineInput.push.Goals as goal

pub returns : goal.returns
returns c text kept =
    let bytes = c.args.self.now.bytes.items in
    let more = c.args.more.now in
    let count : c.min-count.result ≡ min (length more) (4608 - length bytes) = omega (arith, c.min-count.ensures, c.remaining_capacity.ensures) in
    let added : c.try_extend_from_slice.new.self.items ≡ bytes ++ take c.min-count.result more = rw c.unwrap.ensures at c.try_extend_from_slice.ensures.ok in
    added ∙ kept_more text bytes more c.min-count.result kept count
