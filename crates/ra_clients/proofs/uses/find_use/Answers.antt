use Rattle.std.proofs.Common.{Some, ap, sym, ◌∙◌}
use Rattle.ra_clients.specs.declared.uses.NameUse.{NameUse}
use Rattle.ra_clients.proofs.UseLists.{IsFirst, found_use, no_use}
use Rattle.ra_clients.proofs.uses.find_use.Goals as goal

pub returns-in_default : goal.returns-in_default
returns-in_default c = sym (no_use c.args.name.now c.args.uses.now c.in_default.ensures.none)

pub returns : goal.returns
returns c =
    let at : IsFirst c.args.name.now c.args.uses.now c.in-Some.place =
    record { within = c.in-Some.ensures.within; found = c.in-Some.ensures.found; first = c.in-Some.ensures.first }
    in
    ap (λ (u : NameUse). Some u) c.index-uses-place.is
    ∙ sym (found_use c.args.name.now c.args.uses.now c.in-Some.place c.index-uses-place.result at)
