use Rattle.std.proofs.Common.{ap, sym, subst, arith, length}
use Rattle.std.specs.Io.KnownBytes.{Consumes}
use Rattle.std.proofs.KnownBytes.{Consumes-nil}
use Rattle.ra_trace.proofs.Shown.{no_byte_yet}
use Rattle.ra_trace.proofs.line_source.ByBytesLineSource.next_line.Goals as goal

pub next_line_by_bytes-requires-clause-part : goal.next_line_by_bytes-requires-clause-part
next_line_by_bytes-requires-clause-part g c = (no_byte_yet c.args.left c.clear.new.self.items c.clear.ensures).2

pub next_line_by_bytes-requires-clause-short : goal.next_line_by_bytes-requires-clause-short
next_line_by_bytes-requires-clause-short g c = omega (arith, ap length c.clear.ensures)

pub next_line_by_bytes-requires-clause-within : goal.next_line_by_bytes-requires-clause-within
next_line_by_bytes-requires-clause-within g c = (no_byte_yet c.args.left c.clear.new.self.items c.clear.ensures).1

pub returns : goal.returns
returns g c =
    let old = g.R.Read.remaining c.args.reader.now in
    c.next_line_by_bytes.ensures old (subst (Consumes old old) (sym c.clear.ensures) (Consumes-nil old))
