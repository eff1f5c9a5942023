use Rattle.std.proofs.Common.{◌≡◌, false, []}
use Rattle.ra_book_text.specs.Output.{Puts}
use Rattle.ra_book_text.proofs.Pieces.{HasSome}
use Rattle.ra_book_text.proofs.next_line.next_line.Given as goal

-- bytes of a line came, at least one in each turn, and no more was put out
abbrev pub invariant-loop-turn : goal.invariant-loop-turn
invariant-loop-turn g l = record {
  some : HasSome (g.B.Read.remaining l.fn.reader) (g.B.Read.remaining l.reader) l.input.line l._turn;
  puts : Puts (g.W.Write.contents l.fn.writer) (g.W.Write.contents l.writer) l.fn.out l.out [];
  unfailed : l.input.failed ≡ false;
}
