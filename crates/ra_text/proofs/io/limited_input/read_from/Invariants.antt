use Rattle.std.proofs.Common.{false, ◌≡◌, ◌≤◌, length}
use Rattle.std.specs.Io.KnownBytes.{Consumes}
use Rattle.ra_text.proofs.io.limited_input.read_from.Given as goal

abbrev pub invariant-loop-turn : goal.invariant-loop-turn
invariant-loop-turn g l = record {
  unfailed : l.source.failed ≡ false;
  same_reference : l.source.reader.ghost_name ≡ l.fn.source.reader.ghost_name;
  count : l._turn ≤ length l.bytes.items;
  at_most : length l.bytes.items ≤ l.fn.limit;
  room : length l.piece ≡ 512;
  taken : Consumes (g.R.Read.remaining l.fn.source.reader.now) (g.R.Read.remaining l.source.reader.now) l.bytes.items;
}
