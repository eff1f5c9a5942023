use Rattle.std.proofs.Common.{take, flat_map}
use Rattle.ra_text.specs.Lines.{mark_line}
use Rattle.ra_book_text.specs.Answers.{AreShown}
use Rattle.ra_book_text.specs.Output.{Puts}
use Rattle.ra_book_text.proofs.answering.answer_texts.put_marks.Given as goal

-- the lines of the marks so far were put out
abbrev pub invariant-loop-mark : goal.invariant-loop-mark
invariant-loop-mark g l = record {
  puts : Puts (g.W.Write.contents l.fn.writer) (g.W.Write.contents l.writer) l.fn.out l.out (flat_map mark_line (take l.mark-index l.marks));
  shown : AreShown (take l.mark-index l.marks);
}
