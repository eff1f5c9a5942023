use Rattle.std.proofs.Common.{List, refl, subst}
use Rattle.std.specs.Prelude.{All}
use Rattle.ra_stamp.specs.declared.message.Message.{Message}
use Rattle.ra_audit.specs.AuditKeeping.{FlightState, FliesOn, NotesSome, IsIn, IsNoted}
use Rattle.ra_audit.proofs.Flying.{noted_all, noted_some}
use Rattle.ra_audit.proofs.auditor.flights.Flights.note_last.Goals as goal

pub returns-in_err-note_all-clause-same : goal.returns-in_err-note_all-clause-same
returns-in_err-note_all-clause-same c =
    let inside = c.self.inside in
    let old : FlightState = record { nodes = inside.nodes; slots = inside.slots.items; others = inside.others.entries; clock = inside.clock; last = inside.last.items } in
    let new : FlightState =
    record { nodes = inside.nodes; slots = c.note_all.new.slots.items; others = c.note_all.new.others.entries; clock = inside.clock; last = inside.last.items }
    in
    let notes : NotesSome (IsNoted old) old.last old.clock (IsNoted new) =
    subst (λ (ms : List Message). NotesSome (IsNoted old) ms old.clock (IsNoted new)) c.as_slice.ensures c.note_all.ensures.notes
    in
    subst (λ (f : FlightState). FliesOn f new) c.self.view_is (noted_some old new notes refl refl)

pub returns-clause-same : goal.returns-clause-same
returns-clause-same c =
    let inside = c.self.inside in
    let old : FlightState = record { nodes = inside.nodes; slots = inside.slots.items; others = inside.others.entries; clock = inside.clock; last = inside.last.items } in
    let new : FlightState =
    record { nodes = inside.nodes; slots = c.note_all.new.slots.items; others = c.note_all.new.others.entries; clock = inside.clock; last = c.new.result.items }
    in
    let notes : NotesSome (IsNoted old) old.last old.clock (IsNoted new) =
    subst (λ (ms : List Message). NotesSome (IsNoted old) ms old.clock (IsNoted new)) c.as_slice.ensures c.note_all.ensures.notes
    in
    let all : All (IsIn (IsNoted new)) old.last = subst (All (IsIn (IsNoted new))) c.as_slice.ensures c.in_ok-note_all.ensures.ok in
    subst (λ (f : FlightState). FliesOn f new) c.self.view_is (noted_all old new notes all c.new.ensures)
