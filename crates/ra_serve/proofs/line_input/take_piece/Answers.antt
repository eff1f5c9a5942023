use Rattle.std.proofs.Common.{arith}
use Rattle.ra_serve.proofs.Pieces.{is_part, is_more, no_piece}
use Rattle.ra_serve.proofs.line_input.take_piece.Goals as goal

pub returns-in_err-taken : goal.returns-in_err-taken
returns-in_err-taken g c =
    let failed = c.in_err-taken.ensures in
    no_piece _ _ _ _ c.in_err-taken.field-0.0 failed.0 failed.1 c.from_residual.result c.from_residual.ensures.1

pub returns-then-taken-gt0 : goal.returns-then-taken-gt0
returns-then-taken-gt0 g c = is_part _ _ _ _ c.in_ok-taken.taken c.if-taken.false (omega arith) c.in_ok-taken.ensures

pub returns-else-taken-gt0 : goal.returns-else-taken-gt0
returns-else-taken-gt0 g c =
    is_more _ _ _ _ _ _ c.in_ok-taken.taken c.take_byte.result c.if-taken.false (omega arith) c.in_ok-taken.ensures c.take_byte.ensures
