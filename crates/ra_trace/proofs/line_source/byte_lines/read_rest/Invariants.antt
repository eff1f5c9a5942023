use Rattle.std.proofs.Common.{◌≡◌, ◌≢◌, ◌≤◌, ℕ, List, Option, length}
use Rattle.std.specs.Prelude.{All}
use Rattle.std.specs.Io.KnownBytes.{Consumes}
use Rattle.ra_trace.proofs.line_source.byte_lines.read_rest.Given as goal

-- this many bytes came, and none of them is a line feed
abbrev pub invariant-loop-turn : goal.invariant-loop-turn
invariant-loop-turn g l = record {
  count : l._turn ≡ length l.bytes.items;
  short : length l.bytes.items ≤ 128;
  at_most : length l.bytes.items ≤ l.fn.left;
  none : All (λ byte. byte ≢ 10) l.bytes.items;
  taken : (old : Option (List ℕ)) → Consumes old (g.R.Read.remaining l.fn.reader) l.fn.bytes.items → Consumes old (g.R.Read.remaining l.reader) l.bytes.items;
}
