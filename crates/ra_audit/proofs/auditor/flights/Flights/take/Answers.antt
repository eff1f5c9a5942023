use Rattle.std.proofs.Common.{◌≡◌, ◌<◌, ◌∷◌, [], ℕ, List, Option, None, length, get_or, set, refl, ap, ◌∙◌, subst}
use Rattle.ra_frame.specs.declared.frame.Frame.{Frame}
use Rattle.ra_stamp.proofs.StampLaws.{same_messages}
use Rattle.ra_audit.specs.AuditKeeping.{FlightState, FliesAfter, slot_of}
use Rattle.ra_audit.proofs.Flying.{taken_from_slot, flies_from_others, fewer_apart}
use Rattle.ra_audit.proofs.auditor.flights.Flights.take.Goals as goal

pub returns-then-has_message : goal.returns-then-has_message
returns-then-has_message c =
    let inside = c.self.inside in
    let m = c.args.message.now in
    let v = c.deref.ensures.value in
    let place = c.slot_of-slot.result in
    let old : FlightState = record { nodes = inside.nodes; slots = inside.slots.items; others = inside.others.entries; clock = inside.clock; last = inside.last.items } in
    let new : FlightState = record { nodes = inside.nodes; slots = set inside.slots.items place None; others = inside.others.entries; clock = inside.clock; last = inside.last.items } in
    subst (λ (f : FlightState). FliesAfter f (m ∷ []) f.clock f.last new) c.self.view_is
    (taken_from_slot same_messages old new m place c.slot_of-slot.ensures c.self.invariant
    (subst (λ (ss : List (Option Frame)). place < length ss) v (c.has_message.ensures.within c.if-has_message.true))
    (λ none. c.has_message.ensures.some c.if-has_message.true (ap (λ (ss : List (Option Frame)). get_or ss place None) v ∙ none))
    (λ frame at. c.has_message.ensures.no_other c.if-has_message.true frame (ap (λ (ss : List (Option Frame)). get_or ss place None) v ∙ at)) refl)

pub returns-else-has_message : goal.returns-else-has_message
returns-else-has_message c =
    let inside = c.self.inside in
    let m = c.args.message.now in
    let v = c.deref.ensures.value in
    let place = c.slot_of-slot.result in
    let old : FlightState = record { nodes = inside.nodes; slots = inside.slots.items; others = inside.others.entries; clock = inside.clock; last = inside.last.items } in
    let at : get_or c.deref.result.now place None ≡ get_or inside.slots.items (slot_of inside.nodes m) None =
    ap (λ (ss : List (Option Frame)). get_or ss place None) v ∙ ap (λ (k : ℕ). get_or inside.slots.items k None) c.slot_of-slot.ensures
    in
    let new : FlightState = record { nodes = inside.nodes; slots = inside.slots.items; others = c.swap_remove.new.self.entries; clock = inside.clock; last = inside.last.items } in
    subst (λ (f : FlightState). FliesAfter f (m ∷ []) f.clock f.last new) c.self.view_is
    (flies_from_others same_messages old new m c.swap_remove.new.self.entries
    (λ clock is. c.has_message.ensures.other c.if-has_message.false clock (at ∙ is)) c.self.invariant (λ x. c.swap_remove.ensures.updates.0 x) refl)

pub invariant_of-self-else-has_message : goal.invariant_of-self-else-has_message
invariant_of-self-else-has_message c =
    let inside = c.self.inside in
    let m = c.args.message.now in
    let v = c.deref.ensures.value in
    let place = c.slot_of-slot.result in
    let old : FlightState = record { nodes = inside.nodes; slots = inside.slots.items; others = inside.others.entries; clock = inside.clock; last = inside.last.items } in
    let at : get_or c.deref.result.now place None ≡ get_or inside.slots.items (slot_of inside.nodes m) None =
    ap (λ (ss : List (Option Frame)). get_or ss place None) v ∙ ap (λ (k : ℕ). get_or inside.slots.items k None) c.slot_of-slot.ensures
    in
    let new : FlightState = record { nodes = inside.nodes; slots = inside.slots.items; others = c.swap_remove.new.self.entries; clock = inside.clock; last = inside.last.items } in
    fewer_apart same_messages old new m c.swap_remove.new.self.entries
    (λ clock is. c.has_message.ensures.other c.if-has_message.false clock (at ∙ is)) c.self.invariant (λ x. c.swap_remove.ensures.updates.0 x) refl
