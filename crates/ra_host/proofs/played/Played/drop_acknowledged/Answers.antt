use Rattle.std.proofs.Common.{◌≡◌, Some, sym, subst}
use Rattle.std.specs.Prelude.{slice_get}
use Rattle.ra_host.specs.Played.{PlayedState}
use Rattle.ra_host.specs.Replaying.{acknowledged_at}
use Rattle.ra_host.proofs.ReplayedLinks.{dropped_each}
use Rattle.ra_host.proofs.played.Played.drop_acknowledged.Goals as goal

pub returns-clause-outgoing : goal.returns-clause-outgoing
returns-clause-outgoing c k o at =
    dropped_each c.self.inside.outboxes.items c.drop_each.new.outboxes.items (acknowledged_at c.args.links.now.links.items) c.drop_each.ensures.len c.drop_each.ensures.each k o
    (subst (λ (p : PlayedState). slice_get p.outgoing k ≡ Some o) (sym c.self.view_is) at)
