use Rattle.std.proofs.Math.Logic.{∥∥₁_map}
use Rattle.ra_site.proofs.LostFrames.{flagged_by}
use Rattle.ra_site.proofs.Waiters.{wait_through_loss}
use Rattle.ra_site.proofs.site.desk.Desk.mark_lost.Goals as goal

pub invariant_of-self-clause-waits : goal.invariant_of-self-clause-waits
invariant_of-self-clause-waits c =
    ∥∥₁_map c.args.self.now.waits (wait_through_loss c.args.self.now.book c.mark_lost.new.self c.args.frame.now c.mark_lost.result c.mark_lost.ensures.ok c.mark_lost.ensures.err c.args.self.now.waiters.items)

pub returns : goal.returns
returns c = flagged_by c.args.self.now.book c.mark_lost.new.self c.args.frame.now c.mark_lost.result c.mark_lost.ensures.allowed c.mark_lost.ensures.ok
