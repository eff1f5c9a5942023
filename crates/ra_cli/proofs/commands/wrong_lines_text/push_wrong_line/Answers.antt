use Rattle.std.proofs.Common.{◌++◌, List, ℕ, ap, codes, decimal}
use Rattle.ra_text.specs.Lines.{field}
use Rattle.ra_text.proofs.Drafts.{adds_as, adds_both}
use Rattle.ra_cli.proofs.commands.wrong_lines_text.push_wrong_line.Goals as goal

pub returns : goal.returns
returns c =
    adds_as (adds_both (adds_both (adds_both c.push.ensures c.push_number.ensures) c.push_field.ensures) c.end_line.ensures)
    (ap (λ (word : List ℕ). codes "invalid" ++ field (decimal c.args.wrong.now.line) ++ field word ++ codes "\n") c.mark_cause_word.ensures)
