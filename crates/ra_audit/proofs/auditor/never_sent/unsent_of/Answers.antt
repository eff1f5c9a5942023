use Rattle.std.proofs.Common.{◌<◌, subst, sym, ◌∙◌}
use Rattle.std.proofs.lemmas.Option.{same_Some}
use Rattle.ra_book.specs.declared.book.event.BookEvent.{BookEvent}
use Rattle.ra_audit.specs.Audit.{MayCome}
use Rattle.ra_audit.proofs.auditor.never_sent.unsent_of.Goals as goal

pub returns-then-may_come-clause-may : goal.returns-then-may_come-clause-may
returns-then-may_come-clause-may c none event is =
    subst (λ (e : BookEvent). MayCome c.args.nodes.now (c.args.known < e.clock) e.kind) (same_Some c.in_ok-event.event event (c.in_ok-event.ensures.value ∙ is))
    (c.may_come.ensures.may c.if-may_come.true)

pub returns-clause-unsent : goal.returns-clause-unsent
returns-clause-unsent c =
    let at = sym c.in_ok-event.ensures.value in
    (c.node-node.ensures, at, c.may_come.ensures.none c.if-may_come.false (λ due. c.requires.not_ready (c.in_ok-event.event, at, due)))
