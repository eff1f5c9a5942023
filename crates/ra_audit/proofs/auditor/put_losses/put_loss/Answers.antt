use Rattle.std.proofs.Common.{◌≡◌, [], Err, ap, refl, sym, ◌∙◌, arith}
use Rattle.std.proofs.lemmas.Bool.{false≢true}
use Rattle.ra_audit.proofs.AuditLaws.{messages_are_known}
use Rattle.ra_audit.proofs.AuditSteps.{advances_none, advances_kept}
use Rattle.ra_audit.proofs.AuditLosses.{advances_by_loss, lost_one_more, few_lost, loss_refused, loss_unfit, same_error}
use Rattle.ra_audit.proofs.Tracking.{tracked_on, tracked_kept, stay_kept, tracked_by_loss, noted_was_sent, not_noted, if_not_err}
use Rattle.ra_audit.proofs.auditor.put_losses.put_loss.Goals as goal

-- ---- No room to note what the last event sent

pub returns-then-is_err-clause-advances : goal.returns-then-is_err-clause-advances
returns-then-is_err-clause-advances c = λ told. advances_none c.args.world.now c.args.nodes.now told c.requires.audited

pub returns-then-is_err-clause-tracked : goal.returns-then-is_err-clause-tracked
returns-then-is_err-clause-tracked c =
    tracked_on c.args.nodes.now c.args.world.now.moves c.args.flights.now c.note_last.new.self c.note_last.ensures.same c.requires.tracked

pub returns-then-is_err-clause-stay : goal.returns-then-is_err-clause-stay
returns-then-is_err-clause-stay c = λ frame was. was

-- ---- A frame that is not noted

pub returns-then-not-has-clause-advances : goal.returns-then-not-has-clause-advances
returns-then-not-has-clause-advances c = λ told. advances_none c.args.world.now c.args.nodes.now told c.requires.audited

pub returns-then-not-has-clause-tracked : goal.returns-then-not-has-clause-tracked
returns-then-not-has-clause-tracked c =
    tracked_on c.args.nodes.now c.args.world.now.moves c.args.flights.now c.note_last.new.self c.note_last.ensures.same c.requires.tracked

pub returns-then-not-has-clause-stay : goal.returns-then-not-has-clause-stay
returns-then-not-has-clause-stay c = λ frame was. was

pub returns-then-not-has-clause-not_lost : goal.returns-then-not-has-clause-not_lost
returns-then-not-has-clause-not_lost c = λ found is.
    let w = c.args.world.now in
    let nodes = c.args.nodes.now in
    let frame = c.args.frame.now in
    loss_unfit w nodes frame found
    (not_noted messages_are_known w nodes c.note_last.new.self frame c.requires.audited
    (tracked_on nodes w.moves c.args.flights.now c.note_last.new.self c.note_last.ensures.same c.requires.tracked) (if_not_err (c.note_last.new.self.last ≡ []) c.note_last.result (sym c.is_err.ensures.value ∙ c.if-is_err.false) c.note_last.ensures.ok)
    (λ noted. false≢true (sym c.if-not-has.true ∙ c.has.ensures.1 noted)))
    (same_error _ _ is)

-- ---- A loss that is put

pub returns-in-Ok-clause-advances : goal.returns-in-Ok-clause-advances
returns-in-Ok-clause-advances c = λ told.
    advances_by_loss c.args.world.now c.args.frame.now.message _ _ c.step.new.self c.in-Ok.ensures.ok c.step.ensures.run c.args.nodes.now told c.requires.audited

pub returns-in-Ok-clause-tracked : goal.returns-in-Ok-clause-tracked
returns-in-Ok-clause-tracked c =
    let w = c.args.world.now in
    let nodes = c.args.nodes.now in
    (tracked_by_loss messages_are_known w nodes c.args.frame.now.message _ _ c.note_last.new.self c.take.new.self c.step.new.self
    c.requires.audited c.in-Ok.ensures.ok c.step.ensures.run (if_not_err (c.note_last.new.self.last ≡ []) c.note_last.result (sym c.is_err.ensures.value ∙ c.if-is_err.false) c.note_last.ensures.ok) c.take.ensures
    (tracked_on nodes w.moves c.args.flights.now c.note_last.new.self c.note_last.ensures.same c.requires.tracked)).0

pub returns-in-Ok-clause-stay : goal.returns-in-Ok-clause-stay
returns-in-Ok-clause-stay c =
    let w = c.args.world.now in
    let nodes = c.args.nodes.now in
    (tracked_by_loss messages_are_known w nodes c.args.frame.now.message _ _ c.note_last.new.self c.take.new.self c.step.new.self
    c.requires.audited c.in-Ok.ensures.ok c.step.ensures.run (if_not_err (c.note_last.new.self.last ≡ []) c.note_last.result (sym c.is_err.ensures.value ∙ c.if-is_err.false) c.note_last.ensures.ok) c.take.ensures
    (tracked_on nodes w.moves c.args.flights.now c.note_last.new.self c.note_last.ensures.same c.requires.tracked)).1

pub returns-in-Ok-clause-sent : goal.returns-in-Ok-clause-sent
returns-in-Ok-clause-sent c =
    let w = c.args.world.now in
    let nodes = c.args.nodes.now in
    returns-in-Ok-clause-stay c c.args.frame.now
    (noted_was_sent nodes w.moves c.note_last.new.self c.args.frame.now
    (tracked_on nodes w.moves c.args.flights.now c.note_last.new.self c.note_last.ensures.same c.requires.tracked) (c.has.ensures.0 c.if-not-has.false))

pub returns-in-Ok-clause-lost : goal.returns-in-Ok-clause-lost
returns-in-Ok-clause-lost c = lost_one_more c.args.world.now c.args.frame.now.message _ _ c.step.new.self c.in-Ok.ensures.ok

pub returns-in-Ok-clause-few : goal.returns-in-Ok-clause-few
returns-in-Ok-clause-few c = omega (arith, few_lost c.step.new.self.moves, c.steps.ensures.value, c.steps.type_inv)

-- ---- A loss that the world refuses

pub returns-in-Err-clause-advances : goal.returns-in-Err-clause-advances
returns-in-Err-clause-advances c = λ told. advances_kept c.args.world.now c.step.new.self c.args.nodes.now c.args.nodes.now told c.requires.audited c.in-Err.ensures.err refl

pub returns-in-Err-clause-tracked : goal.returns-in-Err-clause-tracked
returns-in-Err-clause-tracked c =
    tracked_kept c.args.world.now c.step.new.self c.args.nodes.now c.args.nodes.now c.args.flights.now c.note_last.new.self c.in-Err.ensures.err refl
    c.note_last.ensures.same c.requires.tracked

pub returns-in-Err-clause-stay : goal.returns-in-Err-clause-stay
returns-in-Err-clause-stay c = stay_kept c.args.world.now c.step.new.self c.args.nodes.now c.args.nodes.now c.in-Err.ensures.err refl

pub returns-in-Err-clause-not_lost : goal.returns-in-Err-clause-not_lost
returns-in-Err-clause-not_lost c = λ found is.
    loss_refused c.args.world.now c.step.new.self c.args.nodes.now c.args.frame.now found c.in-Err.refused c.error_of.result c.in-Err.ensures.err c.error_of.ensures.memory
    c.error_of.ensures.not_lost (λ cause other same. (c.in-Err.ensures.refused cause other).0 (ap (λ x. Err x) same)) (same_error _ _ is)

pub returns-in-Err-clause-no_fault : goal.returns-in-Err-clause-no_fault
returns-in-Err-clause-no_fault c = λ fault is. c.error_of.ensures.no_fault fault (same_error _ _ is)
