use Rattle.std.proofs.Common.{◌∷◌, ap, arith, length, length-append}
use Rattle.ra_trace.proofs.Cuts.{cut-only}
use Rattle.ra_serve.proofs.book_opening.opening_by.Goals as goal

pub opening_after-requires : goal.opening_after-requires
opening_after-requires c =
    let line = c.in-Some.line.now in
    let rest = c.in-Some.rest.now in
    let is = cut-only 10 c.args.text.now (line, rest) c.in-Some.ensures in
    omega (arith, ap length is, length-append line (10 ∷ rest))
