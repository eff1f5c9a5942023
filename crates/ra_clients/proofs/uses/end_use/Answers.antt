use Rattle.std.proofs.Common.{List, Some, ap, subst, sym, ◌∙◌}
use Rattle.ra_clients.specs.declared.uses.NameUse.{NameUse}
use Rattle.ra_clients.proofs.UseLists.{IsFirst, IsNowhere, found_use, no_use, none_without, removed}
use Rattle.ra_clients.proofs.uses.end_use.Goals as goal

pub returns-in_default-clause-value : goal.returns-in_default-clause-value
returns-in_default-clause-value c =
    sym
    (no_use c.args.name.now c.args.uses.now.items
    (subst (λ (us : List NameUse). IsNowhere c.args.name.now us) c.deref.ensures.value c.in_default.ensures.none))

pub returns-in_default-clause-uses : goal.returns-in_default-clause-uses
returns-in_default-clause-uses c =
    sym
    (none_without c.args.name.now c.args.uses.now.items
    (subst (λ (us : List NameUse). IsNowhere c.args.name.now us) c.deref.ensures.value c.in_default.ensures.none))

pub returns-clause-value : goal.returns-clause-value
returns-clause-value c =
    let at =
    subst (λ (us : List NameUse). IsFirst c.args.name.now us c.in-Some.place) c.deref.ensures.value
    (record { within = c.in-Some.ensures.within; found = c.in-Some.ensures.found; first = c.in-Some.ensures.first })
    in
    ap (λ (u : NameUse). Some u) c.remove.ensures.value
    ∙ sym (found_use c.args.name.now c.args.uses.now.items c.in-Some.place c.remove.result at)

pub returns-clause-uses : goal.returns-clause-uses
returns-clause-uses c =
    let at =
    subst (λ (us : List NameUse). IsFirst c.args.name.now us c.in-Some.place) c.deref.ensures.value
    (record { within = c.in-Some.ensures.within; found = c.in-Some.ensures.found; first = c.in-Some.ensures.first })
    in
    c.remove.ensures.items ∙ removed c.args.name.now c.args.uses.now.items c.in-Some.place at
