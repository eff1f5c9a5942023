use Rattle.std.proofs.Common.{refl, sym, subst}
use Rattle.ra_link.specs.Link as rule
use Rattle.ra_host.specs.declared.error.CountError.TheVariants.{OldBook}
use Rattle.ra_host.specs.Host.{hears_ack}
use Rattle.ra_host.specs.Played.{PlayedState}
use Rattle.ra_host.specs.Ready.{IsReadyWith}
use Rattle.ra_host.proofs.LinksHeld.{other_of}
use Rattle.ra_host.proofs.ReadyNodes.{ack_heard, not_refused}
use Rattle.ra_host.proofs.host.Host.hear_ack.Goals as goal

pub returns-clause-host : goal.returns-clause-host
returns-clause-host c ok h are =
    let links = c.args.self.now.links in
    let other = other_of links h c.args.other are.held (c.in-Ok.ensures.other refl) in
    let passes = not_refused (rule.ack_accuses (h.links c.args.other) c.args.start c.args.asker c.args.kept) c.in-Ok.count OldBook (λ yes. (c.in-Ok.ensures.old_book h are.held).1 (other, yes)) in
    record {
      held = c.in-Ok.ensures.host refl h are.held;
      ready = subst (λ (p : PlayedState). IsReadyWith p (hears_ack h c.args.other c.args.start c.args.asker c.args.kept)) (sym c.drop_first.ensures)
          (ack_heard c.args.self.now.played h c.args.other c.args.start c.args.asker c.args.kept c.in-Ok.count other are.ready passes (c.in-Ok.ensures.count h are.held));
    }
