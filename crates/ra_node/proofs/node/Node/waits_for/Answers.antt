use Rattle.std.proofs.Common.{refl, sym, ap, ◌∙◌}
use Rattle.std.specs.Ordering.{nat_cmp}
use Rattle.std.specs.FinSet as set
use Rattle.ra_node.specs.Resource.{Resource}
use Rattle.ra_node.proofs.node.Node.waits_for.Goals as goal

pub returns-in-None-clause-value : goal.returns-in-None-clause-value
returns-in-None-clause-value c =
    sym (ap (λ (r : Resource). set.contains r.state.awaited c.args.other) (c.in-None.ensures.absent refl) ∙ set.contains-empty nat_cmp c.args.other)
