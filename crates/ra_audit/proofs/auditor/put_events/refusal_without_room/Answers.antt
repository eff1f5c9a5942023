use Rattle.std.proofs.Common.{Err, refl, ap, sym, ◌∙◌, subst}
use Rattle.std.specs.Prelude.{slice_get}
use Rattle.std.proofs.lemmas.Bool.{false≢true}
use Rattle.std.proofs.lemmas.Option.{none-some}
use Rattle.ra_world.specs.Run.{GoesOn}
use Rattle.ra_audit.specs.Audit.{ProgressState, IsReady}
use Rattle.ra_audit.proofs.AuditLaws.{messages_are_known}
use Rattle.ra_audit.proofs.AuditSteps.{misfit_now}
use Rattle.ra_audit.proofs.Tracking.{does_not_fly, can_go_on}
use Rattle.ra_audit.proofs.auditor.put_events.refusal_without_room.Goals as goal

pub unreachable-requires : goal.unreachable-requires
unreachable-requires c =
    let ready = c.requires.ready c.index-nodes-place.result in
    none-some ready.0 (sym c.in_default.is ∙ c.next.ensures.value ∙ ap (λ (p : ProgressState). slice_get p.waiting 0) c.index-nodes-place.is ∙ ready.1)

pub returns-then-not-flies_of-clause-fault : goal.returns-then-not-flies_of-clause-fault
returns-then-not-flies_of-clause-fault c = λ fault same.
    let w = c.args.world.now in
    let nodes = c.args.nodes.now in
    let p = c.index-nodes-place.result in
    let at = c.index-nodes-place.is in
    let node = c.node-node.result in
    let kind = c.in-Some.event.kind in
    misfit_now w nodes nodes c.args.place p node c.in-Some.event refl c.requires.within at c.node-node.ensures (sym c.in-Some.ensures.value)
    (subst (IsReady nodes) (sym at) (c.requires.ready p))
    (does_not_fly messages_are_known w nodes c.args.flights.now node kind c.requires.audited c.requires.tracked
    (λ fly. false≢true (sym c.if-not-flies_of.true ∙ c.flies_of.ensures.1 fly)))
    fault (ap (λ x. Err x) same)

pub returns-then-not-accepts-clause-fault : goal.returns-then-not-accepts-clause-fault
returns-then-not-accepts-clause-fault c = λ fault same.
    let w = c.args.world.now in
    let nodes = c.args.nodes.now in
    let p = c.index-nodes-place.result in
    let at = c.index-nodes-place.is in
    misfit_now w nodes nodes c.args.place p c.node-node.result c.in-Some.event refl c.requires.within at c.node-node.ensures (sym c.in-Some.ensures.value)
    (subst (IsReady nodes) (sym at) (c.requires.ready p))
    (λ fits. false≢true (sym c.if-not-accepts.true ∙ c.accepts.ensures.value.1 (subst (GoesOn w.count w.start w.moves) (sym c.step_of-step.ensures) fits.goes_on)))
    fault (ap (λ x. Err x) same)

pub returns-clause-memory : goal.returns-clause-memory
returns-clause-memory c = λ _.
    let w = c.args.world.now in
    let nodes = c.args.nodes.now in
    let p = c.index-nodes-place.result in
    let at = c.index-nodes-place.is in
    can_go_on w w nodes nodes c.args.flights.now c.args.place p c.node-node.result c.in-Some.event c.step_of-step.result refl refl c.requires.within at c.node-node.ensures
    (sym c.in-Some.ensures.value) (subst (IsReady nodes) (sym at) (c.requires.ready p)) c.step_of-step.ensures (c.accepts.ensures.value.0 c.if-not-accepts.false)
    c.requires.tracked (c.flies_of.ensures.0 c.if-not-flies_of.false)
