use Rattle.std.proofs.Common.{length, sym, ap, ◌∙◌}
use Rattle.ra_bag.specs.Filled.{IsShown}
use Rattle.ra_bag.proofs.Results.{on_ok}
use Rattle.ra_bag.proofs.filled.Filled.learn.Goals as goal

-- nothing is known any more
pub returns-then-is_err : goal.returns-then-is_err
returns-then-is_err c known = absurd (known (ap length c.forget-then-is_err.ensures.small))

pub returns-else-is_err : goal.returns-else-is_err
returns-else-is_err c known = on_ok c.learn_all.result (IsShown c.learn_all.new.self c.args.slots.now.items) (sym c.is_err.ensures.value ∙ c.if-is_err.false) c.learn_all.ensures
