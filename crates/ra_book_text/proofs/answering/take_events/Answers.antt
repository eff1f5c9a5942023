use Rattle.std.proofs.Common.{◌≡◌, Bool, Ok, Err, [], ap, arith, ◌++◌, inr, refl, subst}
use Rattle.ra_book_text.specs.declared.error.BookFault.TheVariants.{Read}
use Rattle.std.proofs.lemmas.List.{append-nil}
use Rattle.ra_book_text.specs.NextLine.{ReadsLine}
use Rattle.ra_book_text.proofs.Faults.{fault_is, ok_no_err}
use Rattle.ra_book_text.proofs.Put.{both, none, renamed}
use Rattle.ra_book_text.proofs.Served.{all_answered, ended_after, most_read, none_answered, one_answered, stopped, too_many_lines}
use Rattle.ra_book_text.proofs.answering.take_events.Goals as goal

pub loop-line-init : goal.loop-line-init
loop-line-init g c = record { answered = ([], rw c.new-node.ensures (none_answered _ _ _), none _ _); unfailed = c.requires }

pub loop-line-preserved : goal.loop-line-preserved
loop-line-preserved g c =
    let earlier = c.loop-line.invariant.answered in
    let h = subst (λ (b : Bool). ReadsLine (g.B.Read.remaining c.loop-line.reader) (g.B.Read.remaining c.next_line.new.reader) c.next_line.new.input.line (Ok b)) c.if-not-is_there.false (rw c.in-Ok.is at c.next_line.ensures.read) in
    let a = c.answer_line.ensures h.0 h.3 in
    let put = renamed _ _ _ _ _ _ (append-nil earlier.0) (both _ _ _ _ _ _ _ _ earlier.2 c.next_line.ensures.puts) in
    record {
      answered = (earlier.0 ++ a.0, one_answered _ _ _ _ _ _ _ earlier.0 h.0 a.0 _ earlier.1 h.1 h.2 a.1, both _ _ _ _ _ _ _ _ put a.2);
      unfailed = rw c.in-Ok.is at c.next_line.ensures.unfailed;
    }

pub returns-in-Err-clause-serves : goal.returns-in-Err-clause-serves
returns-in-Err-clause-serves g c =
    let earlier = c.loop-line.invariant.answered in
    let put = renamed _ _ _ _ _ _ (append-nil earlier.0) (both _ _ _ _ _ _ _ _ earlier.2 c.next_line.ensures.puts) in
    (earlier.0, c.loop-line.node, stopped _ _ _ _ _ _ earlier.0 _ c.next_line.new.input.line c.in-Err.fault earlier.1 (rw c.in-Err.is at c.next_line.ensures.read), put)

pub returns-in-Err-clause-reader : goal.returns-in-Err-clause-reader
returns-in-Err-clause-reader g c =
    let said = rw c.in-Err.is at c.next_line.ensures.reader in
    λ is. let same : c.in-Err.fault ≡ Read = fault_is _ _ _ _ refl refl is in ended_after _ _ _ _ _ _ _ _ _ c.loop-line.invariant.answered.1 (said (ap Err same))

pub returns-then-not-is_there-clause-serves : goal.returns-then-not-is_there-clause-serves
returns-then-not-is_there-clause-serves g c =
    let earlier = c.loop-line.invariant.answered in
    let h = subst (λ (b : Bool). ReadsLine (g.B.Read.remaining c.loop-line.reader) (g.B.Read.remaining c.next_line.new.reader) c.next_line.new.input.line (Ok b)) c.if-not-is_there.true (rw c.in-Ok.is at c.next_line.ensures.read) in
    let put = renamed _ _ _ _ _ _ (append-nil earlier.0) (both _ _ _ _ _ _ _ _ earlier.2 c.next_line.ensures.puts) in
    (earlier.0, c.loop-line.node, all_answered _ _ _ _ _ _ earlier.0 _ earlier.1 h.0 h.1, put)

pub returns-clause-serves : goal.returns-clause-serves
returns-clause-serves g c =
    let earlier = c.loop-line.invariant.answered in
    (earlier.0, c.loop-line.node, too_many_lines _ _ _ _ _ earlier.0 _ earlier.1, earlier.2)

pub returns-clause-reader : goal.returns-clause-reader
returns-clause-reader g c = λ is. inr (most_read _ _ _ _ _ _ _ c.loop-line.invariant.answered.1 (omega arith))

pub returns-then-not-is_there-clause-reader : goal.returns-then-not-is_there-clause-reader
returns-then-not-is_there-clause-reader g c = λ is. absurd (ok_no_err is)
