use Rattle.std.proofs.Common.{List, Some, ap, subst, sym, ◌∙◌}
use Rattle.ra_clients.specs.declared.uses.NameUse.{NameUse}
use Rattle.ra_clients.specs.Uses.{waits_if_some}
use Rattle.ra_clients.proofs.UseLists.{IsFirst, IsNowhere, entered, found_use, no_use}
use Rattle.ra_clients.proofs.uses.enter_use.Goals as goal

pub returns-in_default-clause-waited : goal.returns-in_default-clause-waited
returns-in_default-clause-waited c =
    sym
    (ap waits_if_some
    (no_use c.args.name.now c.args.uses.now.items
    (subst (λ (us : List NameUse). IsNowhere c.args.name.now us) c.deref.ensures.value c.in_default.ensures.none)))

pub returns-then-not-waits-clause-waited : goal.returns-then-not-waits-clause-waited
returns-then-not-waits-clause-waited c =
    let at =
    subst (λ (us : List NameUse). IsFirst c.args.name.now us c.in-Some.place) c.deref.ensures.value
    (record { within = c.in-Some.ensures.within; found = c.in-Some.ensures.found; first = c.in-Some.ensures.first })
    in
    let has = found_use c.args.name.now c.args.uses.now.items c.in-Some.place c.index.result.now at ∙ ap (λ (u : NameUse). Some u) (sym c.index.ensures) in
    sym (ap waits_if_some has ∙ (sym c.waits.ensures ∙ c.if-not-waits.true))

pub returns-clause-waited : goal.returns-clause-waited
returns-clause-waited c =
    let at =
    subst (λ (us : List NameUse). IsFirst c.args.name.now us c.in-Some.place) c.deref.ensures.value
    (record { within = c.in-Some.ensures.within; found = c.in-Some.ensures.found; first = c.in-Some.ensures.first })
    in
    let has = found_use c.args.name.now c.args.uses.now.items c.in-Some.place c.index.result.now at ∙ ap (λ (u : NameUse). Some u) (sym c.index.ensures) in
    sym (ap waits_if_some has ∙ (sym c.waits.ensures ∙ c.if-not-waits.false))

pub returns-clause-uses : goal.returns-clause-uses
returns-clause-uses c =
    let at =
    subst (λ (us : List NameUse). IsFirst c.args.name.now us c.in-Some.place) c.deref.ensures.value
    (record { within = c.in-Some.ensures.within; found = c.in-Some.ensures.found; first = c.in-Some.ensures.first })
    in
    entered c.args.name.now c.args.uses.now.items c.in-Some.place c.args.now at
