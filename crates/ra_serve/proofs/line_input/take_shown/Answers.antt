use Rattle.std.proofs.Common.{subst, take, length-take-le}
use Rattle.std.specs.Io.BufRead.{FillKeeps}
use Rattle.std.proofs.BufReadLemmas.{Consumes_shown}
use Rattle.ra_serve.proofs.line_input.take_shown.Goals as goal

pub returns : goal.returns
returns g c =
    let shown = c.in-Ok.shown.now in
    let taken = c.keep_shown-taken.result in
    let kept = c.keep_shown-taken.ensures in
    let rested = c.fill_buf.follows.lender-at-none in
    let filled = subst (FillKeeps _ (g.B.Read.remaining rested) (g.B.BufRead.consumable_len rested)) c.in-Ok.is c.fill_buf.follows.holds-at-none in
    let moved = Consumes_shown _ _ _ _ shown taken.count kept.within c.in-Ok.ensures.front c.in-Ok.ensures.end filled.0 filled.1 c.consume.ensures.bytes in
    (take taken.count shown, kept.part, moved.0, length-take-le taken.count shown kept.within, kept.is_piece, kept.keeps)
