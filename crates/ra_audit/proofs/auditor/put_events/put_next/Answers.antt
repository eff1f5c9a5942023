use Rattle.std.proofs.Common.{◌≡◌, List, [], ◌++◌, Err, get_or, refl, ap, sym, ◌∙◌}
use Rattle.std.proofs.lemmas.List.{get_or_default, set-get_or}
use Rattle.std.proofs.lemmas.Option.{none-some}
use Rattle.ra_stamp.specs.declared.entry.Mark.{Mark}
use Rattle.ra_audit.proofs.AuditLaws.{messages_are_known}
use Rattle.ra_audit.proofs.AuditSteps.{advances_none, advances_step, advances_kept, misfit_of, misfit_now, nothing_lost_by}
use Rattle.ra_audit.proofs.AuditLosses.{same_error}
use Rattle.ra_audit.proofs.Tracking.{tracked_on, tracked_by_event, tracked_kept, stay_kept, does_not_fit, if_not_err, can_go_on, noted_fly}
use Rattle.std.proofs.lemmas.Bool.{false≢true}
use Rattle.ra_audit.proofs.auditor.put_events.put_next.Goals as goal

pub unreachable-requires : goal.unreachable-requires
unreachable-requires g c =
    let ready = c.requires.ready c.index-nodes-place.result in
    none-some ready.0 (sym c.in_default.is ∙ c.next.ensures.value ∙ ready.1)

pub returns-in-Ok-clause-advances : goal.returns-in-Ok-clause-advances
returns-in-Ok-clause-advances g c =
    let nodes = c.args.nodes.now in
    let place = c.args.place in
    let p = get_or nodes place c.index-nodes-place.result in
    let at : p ≡ get_or nodes place p = get_or_default nodes place c.index-nodes-place.result p c.requires.within in
    let told = g.O.MarkObserver.told c.args.observer.now in
    advances_step c.args.world.now nodes place p c.put.new.self c.in-Some.event c.in-Ok.outcome.sends.items c.in-Ok.outcome.marks.items c.step_of-step.result c.node-node.result c.step.new.self
    told (g.O.MarkObserver.told c.tell_all.new.observer)
    c.requires.audited c.requires.within at c.in-Some.ensures.for_node c.put.ensures.node (c.put.ensures.one_more c.in-Some.event (sym c.in-Some.ensures.value)) c.put.ensures.taken c.put.ensures.kept
    c.node-node.ensures c.step_of-step.ensures c.in-Ok.ensures.ok c.step.ensures.run (c.tell_all.ensures.told ∙ ap (λ (ms : List Mark). told ++ ms) c.as_slice.ensures)

pub returns-in-Err-clause-advances : goal.returns-in-Err-clause-advances
returns-in-Err-clause-advances g c =
    advances_kept c.args.world.now c.step.new.self c.args.nodes.now _ (g.O.MarkObserver.told c.args.observer.now) c.requires.audited c.in-Err.ensures.err
    (set-get_or c.args.nodes.now c.args.place c.index-nodes-place.result)

pub returns-in-Err-clause-fault : goal.returns-in-Err-clause-fault
returns-in-Err-clause-fault g c =
    let nodes = c.args.nodes.now in
    let place = c.args.place in
    let p = get_or nodes place c.index-nodes-place.result in
    let at : p ≡ get_or nodes place p = get_or_default nodes place c.index-nodes-place.result p c.requires.within in
    misfit_of c.args.world.now c.step.new.self nodes _ place p c.node-node.result c.in-Some.event c.in-Err.refused c.error_of.result (Err c.error_of.result) c.step_of-step.result refl
    c.in-Err.ensures.err (set-get_or nodes place c.index-nodes-place.result) c.requires.within at c.node-node.ensures (sym c.in-Some.ensures.value) (c.requires.ready c.index-nodes-place.result)
    c.step_of-step.ensures c.in-Err.ensures.allowed.1 c.error_of.ensures.memory.0 c.error_of.ensures.fault

pub returns-in-Ok-clause-unlost : goal.returns-in-Ok-clause-unlost
returns-in-Ok-clause-unlost g c =
    nothing_lost_by c.args.world.now c.step.new.self c.step_of-step.result c.node-node.result c.in-Some.event c.in-Ok.outcome.sends.items c.in-Ok.outcome.marks.items
    c.step_of-step.ensures c.in-Ok.ensures.ok

pub returns-then-is_err-clause-advances : goal.returns-then-is_err-clause-advances
returns-then-is_err-clause-advances g c = advances_none c.args.world.now c.args.nodes.now (g.O.MarkObserver.told c.args.observer.now) c.requires.audited

pub returns-then-is_err-clause-tracked : goal.returns-then-is_err-clause-tracked
returns-then-is_err-clause-tracked g c =
    tracked_on c.args.nodes.now c.args.world.now.moves c.args.flights.now c.note_last.new.self c.note_last.ensures.same c.requires.tracked

pub returns-then-is_err-clause-stay : goal.returns-then-is_err-clause-stay
returns-then-is_err-clause-stay g c = λ frame was. was

pub returns-then-not-has_frame_of-clause-advances : goal.returns-then-not-has_frame_of-clause-advances
returns-then-not-has_frame_of-clause-advances g c =
    advances_kept c.args.world.now c.args.world.now c.args.nodes.now _ (g.O.MarkObserver.told c.args.observer.now) c.requires.audited refl
    (set-get_or c.args.nodes.now c.args.place c.index-nodes-place.result)

pub returns-then-not-has_frame_of-clause-tracked : goal.returns-then-not-has_frame_of-clause-tracked
returns-then-not-has_frame_of-clause-tracked g c =
    tracked_kept c.args.world.now c.args.world.now c.args.nodes.now _ c.args.flights.now c.note_last.new.self refl
    (set-get_or c.args.nodes.now c.args.place c.index-nodes-place.result) c.note_last.ensures.same c.requires.tracked

pub returns-then-not-has_frame_of-clause-stay : goal.returns-then-not-has_frame_of-clause-stay
returns-then-not-has_frame_of-clause-stay g c =
    stay_kept c.args.world.now c.args.world.now c.args.nodes.now _ refl (set-get_or c.args.nodes.now c.args.place c.index-nodes-place.result)

pub returns-then-not-has_frame_of-clause-fault : goal.returns-then-not-has_frame_of-clause-fault
returns-then-not-has_frame_of-clause-fault g c =
    let nodes = c.args.nodes.now in
    let place = c.args.place in
    let w = c.args.world.now in
    let p = get_or nodes place c.index-nodes-place.result in
    let at : p ≡ get_or nodes place p = get_or_default nodes place c.index-nodes-place.result p c.requires.within in
    let kind = c.in-Some.event.kind in
    misfit_now w nodes _ place p c.node-node.result c.in-Some.event (set-get_or nodes place c.index-nodes-place.result) c.requires.within at c.node-node.ensures
    (sym c.in-Some.ensures.value) (c.requires.ready c.index-nodes-place.result)
    (does_not_fit messages_are_known w nodes c.note_last.new.self c.node-node.result kind c.requires.audited
    (tracked_on nodes w.moves c.args.flights.now c.note_last.new.self c.note_last.ensures.same c.requires.tracked) (if_not_err (c.note_last.new.self.last ≡ []) c.note_last.result (sym c.is_err.ensures.value ∙ c.if-is_err.false) c.note_last.ensures.ok)
    (λ noted. false≢true (sym c.if-not-has_frame_of.true ∙ c.has_frame_of.ensures.1 noted)))

pub returns-in-Err-clause-tracked : goal.returns-in-Err-clause-tracked
returns-in-Err-clause-tracked g c =
    tracked_kept c.args.world.now c.step.new.self c.args.nodes.now _ c.args.flights.now c.note_last.new.self c.in-Err.ensures.err
    (set-get_or c.args.nodes.now c.args.place c.index-nodes-place.result) c.note_last.ensures.same c.requires.tracked

pub returns-in-Err-clause-stay : goal.returns-in-Err-clause-stay
returns-in-Err-clause-stay g c =
    stay_kept c.args.world.now c.step.new.self c.args.nodes.now _ c.in-Err.ensures.err (set-get_or c.args.nodes.now c.args.place c.index-nodes-place.result)

pub returns-in-Ok-clause-tracked : goal.returns-in-Ok-clause-tracked
returns-in-Ok-clause-tracked g c =
    let nodes = c.args.nodes.now in
    let place = c.args.place in
    let w = c.args.world.now in
    let p = get_or nodes place c.index-nodes-place.result in
    let at : p ≡ get_or nodes place p = get_or_default nodes place c.index-nodes-place.result p c.requires.within in
    (tracked_by_event messages_are_known w nodes place p c.put.new.self c.in-Some.event c.in-Ok.outcome.sends.items c.in-Ok.outcome.marks.items
    c.note_last.new.self c.go_on.new.self c.step_of-step.result c.node-node.result c.step.new.self
    c.requires.audited c.requires.within at c.in-Some.ensures.for_node c.put.ensures.node (c.put.ensures.one_more c.in-Some.event (sym c.in-Some.ensures.value))
    c.node-node.ensures c.step_of-step.ensures c.in-Ok.ensures.ok c.step.ensures.run (c.has_frame_of.ensures.0 c.if-not-has_frame_of.false) (if_not_err (c.note_last.new.self.last ≡ []) c.note_last.result (sym c.is_err.ensures.value ∙ c.if-is_err.false) c.note_last.ensures.ok) c.go_on.ensures
    (tracked_on nodes w.moves c.args.flights.now c.note_last.new.self c.note_last.ensures.same c.requires.tracked)).0

pub returns-in-Ok-clause-stay : goal.returns-in-Ok-clause-stay
returns-in-Ok-clause-stay g c =
    let nodes = c.args.nodes.now in
    let place = c.args.place in
    let w = c.args.world.now in
    let p = get_or nodes place c.index-nodes-place.result in
    let at : p ≡ get_or nodes place p = get_or_default nodes place c.index-nodes-place.result p c.requires.within in
    (tracked_by_event messages_are_known w nodes place p c.put.new.self c.in-Some.event c.in-Ok.outcome.sends.items c.in-Ok.outcome.marks.items
    c.note_last.new.self c.go_on.new.self c.step_of-step.result c.node-node.result c.step.new.self
    c.requires.audited c.requires.within at c.in-Some.ensures.for_node c.put.ensures.node (c.put.ensures.one_more c.in-Some.event (sym c.in-Some.ensures.value))
    c.node-node.ensures c.step_of-step.ensures c.in-Ok.ensures.ok c.step.ensures.run (c.has_frame_of.ensures.0 c.if-not-has_frame_of.false) (if_not_err (c.note_last.new.self.last ≡ []) c.note_last.result (sym c.is_err.ensures.value ∙ c.if-is_err.false) c.note_last.ensures.ok) c.go_on.ensures
    (tracked_on nodes w.moves c.args.flights.now c.note_last.new.self c.note_last.ensures.same c.requires.tracked)).1

-- ---- No room to note what the last event sent

pub refusal_without_room-requires : goal.refusal_without_room-requires
refusal_without_room-requires g c = record {
  audited = c.requires.audited;
  tracked = tracked_on c.args.nodes.now c.args.world.now.moves c.args.flights.now c.note_last.new.self c.note_last.ensures.same c.requires.tracked;
  within = c.requires.within;
  ready = c.requires.ready;
}

-- ---- No room for the event

pub returns-in-Err-clause-memory : goal.returns-in-Err-clause-memory
returns-in-Err-clause-memory g c is =
    let nodes = c.args.nodes.now in
    let place = c.args.place in
    let w = c.args.world.now in
    let p = get_or nodes place c.index-nodes-place.result in
    let at : p ≡ get_or nodes place p = get_or_default nodes place c.index-nodes-place.result p c.requires.within in
    can_go_on w c.step.new.self nodes _ c.note_last.new.self place p c.node-node.result c.in-Some.event c.step_of-step.result
    c.in-Err.ensures.err (set-get_or nodes place c.index-nodes-place.result) c.requires.within at c.node-node.ensures (sym c.in-Some.ensures.value) (c.requires.ready c.index-nodes-place.result)
    c.step_of-step.ensures (c.in-Err.ensures.allowed.0 (c.error_of.ensures.memory.1 (same_error _ _ is)))
    (tracked_on nodes w.moves c.args.flights.now c.note_last.new.self c.note_last.ensures.same c.requires.tracked)
    (noted_fly c.note_last.new.self c.in-Some.event.kind (c.has_frame_of.ensures.0 c.if-not-has_frame_of.false))

pub returns-then-is_err-clause-memory : goal.returns-then-is_err-clause-memory
returns-then-is_err-clause-memory g c is = c.refusal_without_room.ensures.memory (same_error _ _ is)

pub returns-then-is_err-clause-fault : goal.returns-then-is_err-clause-fault
returns-then-is_err-clause-fault g c fault is = c.refusal_without_room.ensures.fault fault (same_error _ _ is)

pub returns-then-is_err-clause-not_lost : goal.returns-then-is_err-clause-not_lost
returns-then-is_err-clause-not_lost g c frame is = c.refusal_without_room.ensures.not_lost frame (same_error _ _ is)
