use Rattle.std.proofs.Common.{refl}
use Rattle.ra_text.proofs.Drafts.{adds_both}
use Rattle.ra_serve.proofs.Told.{told, untold}
use Rattle.ra_serve.specs.Notes.{settings_text}
use Rattle.ra_serve.proofs.notes.note_settings.Goals as goal

pub returns-in-Some : goal.returns-in-Some
returns-in-Some c =
    told c.args.base.now c.count_fault.new.base _ c.args.host 5 (settings_text c.args.base.now.settings c.args.nodes c.args.first) c.count_fault.result c.in-Some.count c.count_fault.ensures.counts
    c.count_fault.ensures.told c.in-Some.is
    (record { settings = refl; nonce = refl; identity = refl; time = refl; peers = refl; out = adds_both (adds_both c.begin_note.ensures c.push_settings.ensures) c.end_note.ensures })

pub returns-in_default : goal.returns-in_default
returns-in_default c =
    untold c.args.base.now c.count_fault.new.base c.args.host 5 (settings_text c.args.base.now.settings c.args.nodes c.args.first) c.count_fault.result c.count_fault.ensures.counts
    c.count_fault.ensures.told c.in_default.is
