use Rattle.std.proofs.Common.{◌+◌, [], arith, refl, subst}
use Rattle.std.specs.Io.BufRead.{FillKeeps}
use Rattle.std.proofs.KnownBytes.{Consumes-nil, Consumes-kept}
use Rattle.std.proofs.BufReadLemmas.{Consumes_shown}
use Rattle.ra_trace.proofs.Shown.{feed_at}
use Rattle.ra_trace.proofs.WholeLines.{read_after, shown_whole}
use Rattle.ra_trace.proofs.mark_log.whole_lines.next_whole_line.Goals as goal

pub returns-in-Err : goal.returns-in-Err
returns-in-Err g c = ([], (Consumes-kept _ _ _ [] (Consumes-nil _) c.fill_buf.follows.holds-at-none.0, omega arith))

pub returns-then-end-most : goal.returns-then-end-most
returns-then-end-most g c =
    let shown = c.in-Ok.shown.now in
    let end = c.unwrap_or-end.result in
    let part = feed_at c.min-most.result shown c.memchr.result end c.memchr.ensures c.unwrap_or-end.ensures c.if-end-most.true in
    let rested = c.fill_buf.follows.lender-at-none in
    let filled = subst (FillKeeps _ (g.B.Read.remaining rested) (g.B.BufRead.consumable_len rested)) c.in-Ok.is c.fill_buf.follows.holds-at-none in
    let moved = Consumes_shown _ _ _ _ shown (end + 1) part.0 c.in-Ok.ensures.front c.in-Ok.ensures.end filled.0 filled.1 c.consume.ensures.bytes in
    shown_whole c.args.left c.min-most.result _ _ shown _ end c.read_line_of.new.line c.min-most.ensures part moved.0 refl c.read_line_of.ensures

pub returns : goal.returns
returns g c =
    let rested = c.fill_buf.follows.lender-at-none in
    let filled = subst (FillKeeps _ (g.B.Read.remaining rested) (g.B.BufRead.consumable_len rested)) c.in-Ok.is c.fill_buf.follows.holds-at-none in
    read_after c.args.left (g.B.Read.remaining c.args.reader.now) (g.B.Read.remaining rested) _ _ _ _ (Consumes-kept _ _ _ [] (Consumes-nil _) filled.0)
    c.next_whole_line_by_bytes.ensures
