use Rattle.std.proofs.Common.{List, ℕ, take}
use Rattle.ra_book_text.specs.Answers.{AreSends}
use Rattle.ra_book_text.specs.Output.{Puts}
use Rattle.ra_book_text.proofs.answering.answer_texts.put_frames.Given as goal

-- the lines of the messages so far were put out
abbrev pub invariant-loop-message : goal.invariant-loop-message
invariant-loop-message g l =
    (text : List ℕ) × AreSends l.clock (take l.message-index l.sends) text
    × Puts (g.W.Write.contents l.fn.writer) (g.W.Write.contents l.writer) l.fn.out l.out text
