use Rattle.std.proofs.Common.{refl, sym, ap, ◌∙◌}
use Rattle.std.specs.Ordering.{nat_cmp}
use Rattle.std.specs.FinMap as map
use Rattle.ra_node.specs.Resource.{Resource}
use Rattle.ra_node.proofs.node.Node.deferred.Goals as goal

pub returns-in-None-clause-value : goal.returns-in-None-clause-value
returns-in-None-clause-value c =
    sym (ap (λ (r : Resource). map.get r.state.deferred c.args.other) (c.in-None.ensures.absent refl) ∙ map.get-empty nat_cmp c.args.other)
