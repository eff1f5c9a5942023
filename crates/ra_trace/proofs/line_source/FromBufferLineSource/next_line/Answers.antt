use Rattle.std.proofs.Common.{rules, ◌≡◌, ◌+◌, ◌≤◌, false, List, [], ◌++◌, length, take, refl, sym, ap, subst, ◌∙◌, ℕ, arith, length-take-le}
use Rattle.std.specs.Io.BufRead.{FillKeeps}
use Rattle.std.specs.Io.KnownBytes.{Consumes}
use Rattle.std.proofs.KnownBytes.{Consumes-nil, Consumes-kept}
use Rattle.std.proofs.BufReadLemmas.{Consumes_shown}
use Rattle.ra_trace.specs.NextLine.{EndsPart}
use Rattle.ra_trace.proofs.Shown.{whole_line, read_fails, feed_at, no_feed_in}
use Rattle.ra_trace.proofs.line_source.FromBufferLineSource.next_line.Goals as goal

pub returns-in-Err : goal.returns-in-Err
returns-in-Err g c = ([], read_fails _ _ _ _ refl (Consumes-kept _ _ _ [] (Consumes-nil _) c.fill_buf.follows.holds-at-none.0))

-- ---- The line is shown whole

pub returns-then-end-most : goal.returns-then-end-most
returns-then-end-most g c =
    let shown = c.in-Ok.shown.now in
    let end = c.unwrap_or-end.result in
    let part = feed_at c.min-most.result shown c.memchr.result end c.memchr.ensures c.unwrap_or-end.ensures c.if-end-most.true in
    let rested = c.fill_buf.follows.lender-at-none in
    let filled = subst (FillKeeps _ (g.B.Read.remaining rested) (g.B.BufRead.consumable_len rested)) c.in-Ok.is c.fill_buf.follows.holds-at-none in
    let moved = Consumes_shown _ _ _ _ shown (end + 1) part.0 c.in-Ok.ensures.front c.in-Ok.ensures.end filled.0 filled.1 c.consume.ensures.bytes in
    whole_line c.args.left c.min-most.result _ _ shown _ end c.read_line_of.new.line c.min-most.ensures part moved.0 refl c.read_line_of.ensures

-- ---- It is not

pub next_line_by_bytes-requires-clause-part : goal.next_line_by_bytes-requires-clause-part
next_line_by_bytes-requires-clause-part g c =
    let shown = c.in-Ok.shown.now in
    let count = c.min-len.result in
    let part = no_feed_in c.min-most.result shown c.memchr.result c.unwrap_or-end.result count c.memchr.ensures c.unwrap_or-end.ensures c.if-end-most.false c.min-len.ensures in
    let more : c.try_extend_from_slice.new.self.items ≡ c.clear.new.self.items ++ take count shown = search rules in
    let items = more ∙ ap (λ (bs : List ℕ). bs ++ take count shown) c.clear.ensures in
    subst (λ (bs : List ℕ). EndsPart bs false) (sym items) part.2

pub next_line_by_bytes-requires-clause-short : goal.next_line_by_bytes-requires-clause-short
next_line_by_bytes-requires-clause-short g c =
    let shown = c.in-Ok.shown.now in
    let count = c.min-len.result in
    let more : c.try_extend_from_slice.new.self.items ≡ c.clear.new.self.items ++ take count shown = search rules in
    let items = more ∙ ap (λ (bs : List ℕ). bs ++ take count shown) c.clear.ensures in
    let inside : count ≤ length shown = omega (arith, c.min-len.ensures) in
    omega (arith, ap length items, length-take-le count shown inside, c.min-len.ensures, c.min-most.ensures)

pub next_line_by_bytes-requires-clause-within : goal.next_line_by_bytes-requires-clause-within
next_line_by_bytes-requires-clause-within g c =
    let shown = c.in-Ok.shown.now in
    let count = c.min-len.result in
    let more : c.try_extend_from_slice.new.self.items ≡ c.clear.new.self.items ++ take count shown = search rules in
    let items = more ∙ ap (λ (bs : List ℕ). bs ++ take count shown) c.clear.ensures in
    let inside : count ≤ length shown = omega (arith, c.min-len.ensures) in
    omega (arith, ap length items, length-take-le count shown inside, c.min-len.ensures, c.min-most.ensures)

pub returns : goal.returns
returns g c =
    let shown = c.in-Ok.shown.now in
    let count = c.min-len.result in
    let inside : count ≤ length shown = omega (arith, c.min-len.ensures) in
    let old = g.B.Read.remaining c.args.reader.now in
    let rested = c.fill_buf.follows.lender-at-none in
    let filled = subst (FillKeeps _ (g.B.Read.remaining rested) (g.B.BufRead.consumable_len rested)) c.in-Ok.is c.fill_buf.follows.holds-at-none in
    let moved = Consumes_shown _ _ _ _ shown count inside c.in-Ok.ensures.front c.in-Ok.ensures.end filled.0 filled.1 c.consume-2.ensures.bytes in
    let more : c.try_extend_from_slice.new.self.items ≡ c.clear.new.self.items ++ take count shown = search rules in
    let items = more ∙ ap (λ (bs : List ℕ). bs ++ take count shown) c.clear.ensures in
    c.next_line_by_bytes.ensures old (subst (Consumes old _) (sym items) moved.0)
