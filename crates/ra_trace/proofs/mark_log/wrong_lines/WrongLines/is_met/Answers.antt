use Rattle.std.proofs.Common.{◌∙◌, List, Option, ap, sym, ℕ}
use Rattle.ra_trace.specs.declared.mark_log.wrong_lines.WrongLine.{WrongLine}
use Rattle.ra_trace.specs.LeftOut.{is_met}
use Rattle.ra_trace.proofs.WrongOnes.{met_by_map}
use Rattle.ra_trace.proofs.mark_log.wrong_lines.WrongLines.is_met.Goals as goal

pub returns-in-Some : goal.returns-in-Some
returns-in-Some c =
    c.contains_key.ensures
    ∙ met_by_map c.in-Some.name c.self.inside.names.entries
    ∙ c.self.invariant.names_are c.in-Some.name
    ∙ ap (λ (o : Option (List ℕ)). is_met o c.self.inside.all.items) (sym c.in-Some.is)
    ∙ ap (λ (lines : List WrongLine). is_met c.args.name.now lines) c.self.view_is
