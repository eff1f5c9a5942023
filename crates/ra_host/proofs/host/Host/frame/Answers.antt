use Rattle.std.proofs.Common.{◌-◌, sym, ap, ◌∙◌}
use Rattle.ra_link.specs.declared.link.Link.{Link}
use Rattle.ra_link.specs.Link as rule
use Rattle.ra_book.specs.Pairs.{sent_to}
use Rattle.ra_host.proofs.LinksHeld.{found_is, other_of}
use Rattle.ra_host.proofs.SaidFrames.{said_is}
use Rattle.ra_host.proofs.host.Host.frame.Goals as goal

pub returns-clause-said : goal.returns-clause-said
returns-clause-said c h are =
    let host = c.args.self.now in
    let j = c.args.other in
    let found = c.in-Some.ensures.found in
    let other = other_of host.links h j are.held found.0 in
    let kept = are.ready.book.each j other in (
      ap (λ (l : Link). rule.frame_of l c.args.number) (found_is host.links h j c.in-Some.link are.held found.0 found.1) ∙ sym c.in-Some-frame.ensures,
      said_is host.played.outgoing (j - 1) kept.0 (sent_to j h.book) c.args.number c.in-Some-frame-2.frame kept.1 kept.2 (sym c.in-Some-frame-2.ensures),
    )
