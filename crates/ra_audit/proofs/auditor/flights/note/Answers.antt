use Rattle.std.proofs.Common.{◌≡◌, ◌<◌, ℕ, List, Option, None, length, get_or, refl, sym, ap, ◌∙◌, subst}
use Rattle.std.proofs.lemmas.Bool.{true≢false}
use Rattle.ra_frame.specs.declared.frame.Frame.{Frame}
use Rattle.ra_stamp.proofs.StampLaws.{same_messages}
use Rattle.ra_audit.specs.AuditKeeping.{IsInSlot, slot_of}
use Rattle.ra_audit.proofs.Flying.{put_in_slot, not_in_slot, among_apart, among_notes, among_now}
use Rattle.ra_audit.proofs.auditor.flights.note.Goals.{else-may_take-via-then-may_take+else-are_without, else-may_take-via-else-may_take}
use Rattle.ra_audit.proofs.auditor.flights.note.Goals as goal

pub returns-then-are_without-clause-notes : goal.returns-then-are_without-clause-notes
returns-then-are_without-clause-notes c =
    let v = c.as_slice.ensures.value in
    let place = c.slot_of-slot.result in
    let within : place < length c.args.slots.now.items =
    subst (λ (ss : List (Option Frame)). place < length ss) v (c.may_take.ensures.within c.if-may_take.true)
    in
    (put_in_slot c.args.nodes c.args.slots.now.items _ c.args.others.now.entries c.args.message.now c.args.clock place c.slot_of-slot.ensures within
    (λ frame at. c.may_take.ensures.no_other c.if-may_take.true frame (ap (λ (ss : List (Option Frame)). get_or ss place None) v ∙ at))
    (c.are_without.ensures.0 c.if-are_without.true) c.requires refl).1

pub returns-then-are_without-clause-ok : goal.returns-then-are_without-clause-ok
returns-then-are_without-clause-ok c =
    let v = c.as_slice.ensures.value in
    let place = c.slot_of-slot.result in
    let within : place < length c.args.slots.now.items =
    subst (λ (ss : List (Option Frame)). place < length ss) v (c.may_take.ensures.within c.if-may_take.true)
    in
    (put_in_slot c.args.nodes c.args.slots.now.items _ c.args.others.now.entries c.args.message.now c.args.clock place c.slot_of-slot.ensures within
    (λ frame at. c.may_take.ensures.no_other c.if-may_take.true frame (ap (λ (ss : List (Option Frame)). get_or ss place None) v ∙ at))
    (c.are_without.ensures.0 c.if-are_without.true) c.requires refl).2

pub returns-clause-apart : goal.returns-clause-apart
returns-clause-apart c =
    let v = c.as_slice.ensures.value in
    let place = c.slot_of-slot.result in
    let nodes = c.args.nodes in
    let slots = c.args.slots.now.items in
    let others = c.args.others.now.entries in
    let m = c.args.message.now in
    let at : get_or c.as_slice.result.now place None ≡ get_or slots (slot_of nodes m) None =
    ap (λ (ss : List (Option Frame)). get_or ss place None) v ∙ ap (λ (k : ℕ). get_or slots k None) c.slot_of-slot.ensures
    in
    let out : (clock : ℕ) → IsInSlot nodes slots m clock → ⊥ = elim c.else-may_take.branch [
      | else-may_take-via-then-may_take+else-are_without w ↦
          not_in_slot nodes slots others m c.requires (λ none. true≢false (sym (w.are_without.ensures.1 none) ∙ w.if-are_without.false))
      | else-may_take-via-else-may_take w ↦ λ clock is. c.may_take.ensures.other w.if-may_take.false clock (at ∙ is)
    ] in
    among_apart same_messages nodes slots others c.insert.new.self.entries m c.args.clock (λ x. c.in_ok-insert.ensures.updates.0 x) out c.requires

pub returns-clause-notes : goal.returns-clause-notes
returns-clause-notes c =
    among_notes same_messages c.args.nodes c.args.slots.now.items c.args.others.now.entries c.insert.new.self.entries c.args.message.now c.args.clock
    (λ x. c.in_ok-insert.ensures.updates.0 x)

pub returns-clause-ok : goal.returns-clause-ok
returns-clause-ok c =
    among_now same_messages c.args.nodes c.args.slots.now.items c.args.others.now.entries c.insert.new.self.entries c.args.message.now c.args.clock
    (λ x. c.in_ok-insert.ensures.updates.0 x)
