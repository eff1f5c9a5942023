use Rattle.std.proofs.Common.{List, ℕ, refl, rules}
use Rattle.ra_book_text.specs.BookText.{HasBytes}
use Rattle.ra_book_text.proofs.next_line.event_line.receive_line.Goals as goal

pub returns-then-is_err-clause-read : goal.returns-then-is_err-clause-read
returns-then-is_err-clause-read c line is short =
    let none : (bytes : List ℕ) → HasBytes c.args.digits.now bytes → ⊥ = search rules in
    (c.args.digits.now, (short, tt, is), none)

pub returns-in-Ok-clause-read : goal.returns-in-Ok-clause-read
returns-in-Ok-clause-read c line is short =
    let some : HasBytes c.args.digits.now c.decode_to_slice.new.out = search rules in
    (c.args.digits.now, (short, tt, is), (c.decode_to_slice.new.out, some, c.in-Ok.ensures.found))

pub returns-in-Err-clause-read : goal.returns-in-Err-clause-read
returns-in-Err-clause-read c line is short =
    let some : HasBytes c.args.digits.now c.decode_to_slice.new.out = search rules in
    (c.args.digits.now, (short, tt, is), (c.decode_to_slice.new.out, some, (c.in-Err.ensures.fault c.in-Err.fault).0 refl))
