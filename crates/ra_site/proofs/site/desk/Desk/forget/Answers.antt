use Rattle.std.proofs.Common.{[]}
use Rattle.std.proofs.Math.Logic.{∥∥₁_map}
use Rattle.ra_site.proofs.LostFrames.{still_none_after}
use Rattle.ra_site.proofs.Waiters.{wait_through_forgetting}
use Rattle.ra_site.proofs.site.desk.Desk.forget.Goals as goal

pub invariant_of-self : goal.invariant_of-self
invariant_of-self g c =
    let was = c.args.self.now in
    record {
      flagged = still_none_after was.book c.forget.new.self _ c.forget.result (λ _. []) (λ _. []) c.forget.ensures.ok c.forget.ensures.err was.may_have_lost was.flagged;
      once = was.once;
      waits = ∥∥₁_map was.waits (wait_through_forgetting was.book c.forget.new.self c.forget.result c.forget.ensures.ok c.forget.ensures.err c.forget.ensures.history was.waiters.items);
    }
