use Rattle.std.proofs.Common.{◌<◌, length, arith, ap, ◌∙◌}
use Rattle.ra_link.specs.declared.link.Link.{Link}
use Rattle.ra_host.proofs.ReplayedLinks.{acknowledged_there, none_acknowledged}
use Rattle.ra_host.proofs.links.Links.acknowledged_at.Goals as goal

pub returns-then-place-len : goal.returns-then-place-len
returns-then-place-len c =
    let links = c.args.self.now.links in
    none_acknowledged links.items c.args.place (omega (arith, c.if-place-len.true, c.len.ensures, links.ok.0))

pub returns : goal.returns
returns c =
    let links = c.args.self.now.links in
    let within : c.args.place < length links.items = omega (arith, c.if-place-len.false, c.len.ensures, links.ok.0) in
    c.acknowledged.ensures ∙ ap (λ (l : Link). l.acknowledged) c.index.ensures ∙ acknowledged_there links.items c.args.place c.index.result.now within
