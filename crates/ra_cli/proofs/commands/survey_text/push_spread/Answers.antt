use Rattle.std.proofs.Common.{◌++◌, List, ℕ, ap, append-nil, codes, decimal, sym, ◌∙◌}
use Rattle.ra_text.specs.Lines.{field}
use Rattle.ra_text.proofs.Drafts.{adds_as, adds_nothing}
use Rattle.ra_cli.specs.Surveyed.{spread_line}
use Rattle.ra_cli.proofs.commands.survey_text.push_spread.Goals as goal

pub returns-in-Some : goal.returns-in-Some
returns-in-Some c =
    let word = c.args.word.now in
    let least = word ++ field (decimal c.in-Some.field-0.least) in
    adds_as c.push_row.ensures
    (ap (λ (t : List ℕ). t ++ field (decimal c.in-Some.field-0.most) ++ codes "\n") (append-nil least) ∙ sym (ap (spread_line word) c.in-Some.is))

pub returns-in_default : goal.returns-in_default
returns-in_default c = adds_as adds_nothing (sym (ap (spread_line c.args.word.now) c.in_default.is))
