use Rattle.std.proofs.Common.{sym, ◌∙◌}
use Rattle.ra_trace.proofs.Lines.{is_line, is_no_line}
use Rattle.ra_trace.proofs.line.Line.parse.Goals as goal

pub returns-clause-line : goal.returns-clause-line
returns-clause-line c = is_line c.args.text.now c.read_line_of.new.line c.read_line_of.ensures

pub returns-clause-none : goal.returns-clause-none
returns-clause-none c none = is_no_line c.args.text.now (sym c.read_line_of.ensures ∙ none)
