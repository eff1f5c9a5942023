use Rattle.std.proofs.Common.{◌≡◌, ◌++◌, [], refl}
use Rattle.ra_book_text.specs.Output.{Puts}
use Rattle.ra_book_text.proofs.Put.{both, none, waits, dropped}
use Rattle.ra_book_text.proofs.answering.waiting_output.put.Goals as goal
use Rattle.ra_book_text.proofs.answering.waiting_output.put.Goals.{then-remaining_capacity-text, else-remaining_capacity-text}

pub returns-then-not-out : goal.returns-then-not-out
returns-then-not-out g c =
    let at = c.if-remaining_capacity-text in
    let before : Puts (g.W.Write.contents c.args.writer.now) (g.W.Write.contents at.writer) c.args.out.now at.out [] =
    elim at.branch [
      | then-remaining_capacity-text w ↦ rw (w.writer-is, w.out-is) w.write_waiting.ensures.puts
      | else-remaining_capacity-text w ↦ rw (w.writer-is, w.out-is) (none _ _)
    ] in
    let more : c.try_extend_from_slice.new.self.items ≡ at.out.waiting.items ++ c.args.text.now = rw c.unwrap.ensures at c.try_extend_from_slice.ensures.ok in
    both _ _ _ _ _ _ _ _ before (waits _ at.out _ c.args.text.now c.if-not-out.true refl more)

pub returns-else-not-out : goal.returns-else-not-out
returns-else-not-out g c =
    let at = c.if-remaining_capacity-text in
    let before : Puts (g.W.Write.contents c.args.writer.now) (g.W.Write.contents at.writer) c.args.out.now at.out [] =
    elim at.branch [
      | then-remaining_capacity-text w ↦ rw (w.writer-is, w.out-is) w.write_waiting.ensures.puts
      | else-remaining_capacity-text w ↦ rw (w.writer-is, w.out-is) (none _ _)
    ] in
    both _ _ _ _ _ _ _ _ before (dropped _ _ c.args.text.now c.if-not-out.false)
