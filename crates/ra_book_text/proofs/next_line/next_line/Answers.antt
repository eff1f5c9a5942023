use Rattle.std.proofs.Common.{refl, inl}
use Rattle.ra_book_text.proofs.Faults.{ok_no_err, write_no_read}
use Rattle.ra_book_text.proofs.Pieces.{no_bytes, part_more, over_more, open_of, open_more}
use Rattle.ra_book_text.proofs.Put.{both, none}
use Rattle.ra_book_text.proofs.next_line.next_line.Goals as goal

pub returns-in-Over-clause-read : goal.returns-in-Over-clause-read
returns-in-Over-clause-read g c = over_more _ _ _ _ _ _ c.loop-turn.invariant.some (rw (c.in-Ok.is, c.in-Over.is) at c.take_piece.ensures)

pub loop-turn-preserved : goal.loop-turn-preserved
loop-turn-preserved g c = record {
  some = part_more _ _ _ _ _ _ c.loop-turn.invariant.some (rw (c.in-Ok.is, c.in-Part.is) at c.take_piece.ensures);
  puts = both _ _ _ _ _ _ _ _ c.loop-turn.invariant.puts c.flush_if.ensures.puts;
  unfailed = c.loop-turn.invariant.unfailed;
}

pub loop-turn-init : goal.loop-turn-init
loop-turn-init g c = record { some = no_bytes _ _ c.clear.ensures; puts = none _ _; unfailed = c.requires }

pub returns-then-flush_if-clause-read : goal.returns-then-flush_if-clause-read
returns-then-flush_if-clause-read g c = open_of _ _ _ _ c.loop-turn.invariant.some

pub returns-then-flush_if-clause-puts : goal.returns-then-flush_if-clause-puts
returns-then-flush_if-clause-puts g c = both _ _ _ _ _ _ _ _ c.loop-turn.invariant.puts c.flush_if.ensures.puts

pub returns-in-Err-clause-read : goal.returns-in-Err-clause-read
returns-in-Err-clause-read g c = open_more _ _ _ _ _ c.loop-turn.invariant.some (rw c.in-Err.is at c.take_piece.ensures).1

pub returns-in-Err-clause-puts : goal.returns-in-Err-clause-puts
returns-in-Err-clause-puts g c = both _ _ _ _ _ _ _ _ c.loop-turn.invariant.puts c.flush_if.ensures.puts

pub returns-in-Over-clause-puts : goal.returns-in-Over-clause-puts
returns-in-Over-clause-puts g c = both _ _ _ _ _ _ _ _ c.loop-turn.invariant.puts c.flush_if.ensures.puts

pub returns-in-End-clause-read : goal.returns-in-End-clause-read
returns-in-End-clause-read g c =
    let end = rw (c.in-Ok.is, c.in-End.is) at c.take_piece.ensures in
    (open_more _ _ _ _ _ c.loop-turn.invariant.some end.0, end.1)

pub returns-in-End-clause-puts : goal.returns-in-End-clause-puts
returns-in-End-clause-puts g c = both _ _ _ _ _ _ _ _ c.loop-turn.invariant.puts c.flush_if.ensures.puts

pub returns-clause-read : goal.returns-clause-read
returns-clause-read g c = open_of _ _ _ _ c.loop-turn.invariant.some

pub returns-clause-puts : goal.returns-clause-puts
returns-clause-puts g c = c.loop-turn.invariant.puts

pub returns-in-Err-clause-reader : goal.returns-in-Err-clause-reader
returns-in-Err-clause-reader g c = λ _. inl refl

pub returns-then-flush_if-clause-reader : goal.returns-then-flush_if-clause-reader
returns-then-flush_if-clause-reader g c = λ is. absurd (write_no_read _ _ refl refl is)

pub returns-in-Over-clause-reader : goal.returns-in-Over-clause-reader
returns-in-Over-clause-reader g c = λ is. absurd (ok_no_err is)

pub returns-in-End-clause-reader : goal.returns-in-End-clause-reader
returns-in-End-clause-reader g c = λ is. absurd (ok_no_err is)
