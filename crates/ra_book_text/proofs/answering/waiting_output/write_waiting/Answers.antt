use Rattle.std.proofs.Common.{rules}
use Rattle.ra_book_text.proofs.Put.{none, tried}
use Rattle.ra_book_text.proofs.answering.waiting_output.write_waiting.Goals as goal

pub returns-then-not-out-clause-puts : goal.returns-then-not-out-clause-puts
returns-then-not-out-clause-puts g c =
    tried _ _ _ _ c.as_slice.result.now c.write_out.result c.if-not-out.true c.as_slice.ensures.value c.is_err-out.ensures.value (search rules) c.write_out.ensures.ok c.write_out.ensures.err

pub returns-else-not-out-clause-puts : goal.returns-else-not-out-clause-puts
returns-else-not-out-clause-puts g c = none _ _
