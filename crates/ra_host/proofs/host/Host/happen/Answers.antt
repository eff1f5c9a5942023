use Rattle.std.proofs.Common.{List, sym, ap, ◌∙◌}
use Rattle.ra_stamp.specs.declared.message.Message.{Message}
use Rattle.ra_host.specs.declared.error.EventError.TheVariants.{Full}
use Rattle.ra_host.specs.Making.{makes_each}
use Rattle.ra_host.proofs.LinksHeld.{never_both}
use Rattle.ra_host.proofs.ReadyNodes.{happened, own_can_come}
use Rattle.ra_host.proofs.Refusals.{full_exactly, ok_is_no_error}
use Rattle.ra_host.proofs.host.Host.happen.Goals as goal

pub take-requires : goal.take-requires
take-requires c = own_can_come c.args.kind.now c.requires

pub returns-in-Err-clause-full : goal.returns-in-Err-clause-full
returns-in-Err-clause-full c = full_exactly c.args.self.now.played c.args.kind.now c.in-Err.why c.in-Err.ensures.taken.1

pub returns-clause-happened : goal.returns-clause-happened
returns-clause-happened c h are =
    let old = c.args.self.now in
    happened old.links c.make_frames.new.self old.played c.take.new.self h c.args.kind.now c.in-Ok.outcome are.held are.ready c.in-Ok.ensures.taken
    (c.in-Ok.ensures.book h.book are.ready.book) c.make_frames.ensures.me
    (c.make_frames.ensures.links ∙ ap (λ (ms : List Message). makes_each old.links.links.items ms) c.as_slice.ensures)

pub returns-clause-full : goal.returns-clause-full
returns-clause-full c = (
  λ same. absurd (ok_is_no_error c.in-Ok.outcome Full same),
  λ full. absurd (never_both (sym full ∙ c.in-Ok.ensures.taken.numbers)),
)
