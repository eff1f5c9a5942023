use Rattle.std.proofs.Common.{ℕ, List, subst}
use Rattle.ra_serve.specs.Notes.{Notes, fault_text}
use Rattle.ra_serve.proofs.notes.note_fault.Goals as goal

pub returns : goal.returns
returns c =
    subst (λ (p : ℕ). Notes c.args.base.now c.args.host p (fault_text c.args.fault) c.note.new.base) c.fault_words-place.ensures.place
    (subst (λ (w : List ℕ). Notes c.args.base.now c.args.host c.fault_words-place.result.1 w c.note.new.base) c.fault_words-place.ensures.words c.note.ensures)
