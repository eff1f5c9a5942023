use Rattle.std.proofs.Common.{◌++◌, ℕ, ap, codes, decimal, sym, ◌∙◌}
use Rattle.ra_text.specs.Lines.{field}
use Rattle.ra_text.proofs.Drafts.{adds_as, adds_nothing}
use Rattle.ra_cli.specs.Surveyed.{tally_line}
use Rattle.ra_cli.proofs.commands.survey_text.push_tally.Goals as goal

pub returns-in-Some : goal.returns-in-Some
returns-in-Some c =
    let word = c.args.word.now in
    let line = λ (n : ℕ). word ++ field (decimal c.in-Some.field-0.seeds) ++ codes " first" ++ field (decimal n) ++ codes "\n" in
    adds_as c.push_row.ensures (ap line c.from.ensures ∙ sym (ap (tally_line word) c.in-Some.is))

pub returns-in_default : goal.returns-in_default
returns-in_default c = adds_as adds_nothing (sym (ap (tally_line c.args.word.now) c.in_default.is))
