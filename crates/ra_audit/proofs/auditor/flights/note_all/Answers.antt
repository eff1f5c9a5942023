use Rattle.std.proofs.Common.{◌≡◌, ◌+◌, ◌++◌, ◌∷◌, [], List, take, ap, sym, subst, ◌∙◌}
use Rattle.std.specs.Prelude.{All}
use Rattle.std.proofs.lemmas.List.{take_more, take_all}
use Rattle.std.proofs.lemmas.List.Elements.{All-nil}
use Rattle.ra_stamp.specs.declared.message.Message.{Message}
use Rattle.ra_audit.specs.AuditKeeping.{NotesSome, IsIn, IsNotedIn}
use Rattle.ra_audit.proofs.Flying.{notes_none, notes_more, notes_of, all_noted}
use Rattle.ra_audit.proofs.auditor.flights.note_all.Goals as goal

pub loop-message-init : goal.loop-message-init
loop-message-init c =
    let noted = IsNotedIn c.args.nodes c.args.slots.now.items c.args.others.now.entries in record {
      apart = c.requires;
      notes = notes_none noted c.args.clock;
      all = All-nil (IsIn noted);
    }

pub loop-message-preserved : goal.loop-message-preserved
loop-message-preserved c =
    let ms = c.args.messages.now in
    let i = c.loop-message.message-index in
    let x = c.message-item.result in
    let old = IsNotedIn c.args.nodes c.args.slots.now.items c.args.others.now.entries in
    let mid = IsNotedIn c.args.nodes c.loop-message.slots.items c.loop-message.others.entries in
    let new = IsNotedIn c.args.nodes c.note.new.slots.items c.note.new.others.entries in
    let held = c.loop-message.invariant in
    let more : take (i + 1) ms ≡ take i ms ++ x ∷ [] = take_more ms i x c.loop-message-test.true ∙ ap (λ (m : Message). take i ms ++ m ∷ []) (sym c.message-item.is) in
    record {
      apart = c.note.ensures.apart;
      notes = subst (λ (seen : List Message). NotesSome old seen c.args.clock new) (sym more) (notes_more old mid new (take i ms) (x ∷ []) c.args.clock held.notes c.note.ensures.notes);
      all = subst (All (IsIn new)) (sym more) (all_noted mid new (take i ms) x c.args.clock c.note.ensures.notes c.in_ok-note.ensures.ok held.all);
    }

pub returns-in_err-note-clause-notes : goal.returns-in_err-note-clause-notes
returns-in_err-note-clause-notes c =
    let ms = c.args.messages.now in
    let i = c.loop-message.message-index in
    let x = c.message-item.result in
    let old = IsNotedIn c.args.nodes c.args.slots.now.items c.args.others.now.entries in
    let mid = IsNotedIn c.args.nodes c.loop-message.slots.items c.loop-message.others.entries in
    let new = IsNotedIn c.args.nodes c.note.new.slots.items c.note.new.others.entries in
    let more : take (i + 1) ms ≡ take i ms ++ x ∷ [] = take_more ms i x c.loop-message-test.true ∙ ap (λ (m : Message). take i ms ++ m ∷ []) (sym c.message-item.is) in
    notes_of old new ms (i + 1) c.args.clock
    (subst (λ (seen : List Message). NotesSome old seen c.args.clock new) (sym more) (notes_more old mid new (take i ms) (x ∷ []) c.args.clock c.loop-message.invariant.notes c.note.ensures.notes))

pub returns-clause-notes : goal.returns-clause-notes
returns-clause-notes c =
    notes_of (IsNotedIn c.args.nodes c.args.slots.now.items c.args.others.now.entries) (IsNotedIn c.args.nodes c.loop-message.slots.items c.loop-message.others.entries)
    c.args.messages.now c.loop-message.message-index c.args.clock c.loop-message.invariant.notes

pub returns-clause-ok : goal.returns-clause-ok
returns-clause-ok c =
    subst (All (IsIn (IsNotedIn c.args.nodes c.loop-message.slots.items c.loop-message.others.entries))) (take_all c.loop-message.message-index c.args.messages.now c.loop-message-test.false)
    c.loop-message.invariant.all
