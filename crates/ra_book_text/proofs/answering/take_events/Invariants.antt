use Rattle.std.proofs.Common.{◌≡◌, false, List, ℕ}
use Rattle.ra_book.specs.Timed.{opening}
use Rattle.ra_book_text.specs.Output.{Puts}
use Rattle.ra_book_text.proofs.Served.{HasAnswered}
use Rattle.ra_book_text.proofs.answering.take_events.Given as goal

-- the lines so far were answered, one in each turn
abbrev pub invariant-loop-line : goal.invariant-loop-line
invariant-loop-line g l = record {
  answered : (text : List ℕ) × HasAnswered l.first.version (g.B.Read.remaining l.fn.reader) (g.B.Read.remaining l.reader)
      (opening l.first.member.node l.first.member.nodes l.first.start) text l.node l._line
      × Puts (g.W.Write.contents l.fn.writer) (g.W.Write.contents l.writer) l.fn.out l.out text;
  unfailed : l.input.failed ≡ false;
}
