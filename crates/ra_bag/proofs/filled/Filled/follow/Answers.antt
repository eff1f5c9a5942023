use Rattle.std.proofs.Common.{length, ap}
use Rattle.ra_bag.proofs.filled.Filled.follow.Goals as goal

-- no bit is kept any more
pub returns-then-is_err : goal.returns-then-is_err
returns-then-is_err c slots len kept known = absurd (known (ap length c.forget.ensures.small))
