use Rattle.std.proofs.Common.{List, ℕ, ◌++◌, codes, ap, ◌∙◌}
use Rattle.ra_stamp.specs.declared.entry.Entry.{Entry}
use Rattle.ra_stamp.specs.Mark.{mark_word}
use Rattle.ra_text.specs.Lines.{entry_fields}
use Rattle.ra_text.proofs.Drafts.{adds_as}
use Rattle.ra_text.proofs.draft.Draft.push_mark_line.Goals as goal

pub returns : goal.returns
returns c =
    adds_as c.push_entry_line.ensures
    (ap (λ (word : List ℕ). word ++ entry_fields c.entry.result.now ++ codes "\n") c.word.ensures
    ∙ ap (λ (e : Entry). mark_word c.args.mark.now ++ entry_fields e ++ codes "\n") c.entry.ensures)
