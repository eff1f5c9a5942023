use Rattle.std.proofs.Common.{ℕ, Option, Some, None, option_map, sym, ap, ◌∙◌}
use Rattle.ra_trace.specs.declared.line.Line.{Line}
use Rattle.ra_trace.specs.declared.line.Line.TheVariants.{First}
use Rattle.ra_trace.specs.declared.line.version.Version.{Version}
use Rattle.ra_trace.specs.Forms.{node_of, start_of}
use Rattle.ra_trace.proofs.FieldReads.{no_first, first_then}
use Rattle.ra_trace.proofs.line.forms.plain_first_of.Goals as goal

-- the line of what was read
abbrev line_of : Version → Option (ℕ × ℕ) → Option Line
line_of version read = option_map (λ f. First version f.0 f.1) read

pub returns-in_default : goal.returns-in_default
returns-in_default c = ap (line_of c.args.version) (sym (no_first node_of start_of c.args.text.now c.in_default.ensures))

pub returns-in_default-start_of : goal.returns-in_default-start_of
returns-in_default-start_of c =
    ap (line_of c.args.version)
    (sym (first_then node_of start_of c.args.text.now c.in-Some.prefix.1.now c.in-Some.prefix.0 None (rw c.in-Some.is at c.node_before.ensures) (sym c.start_of.ensures ∙ c.in_default-start_of.is)))

pub returns : goal.returns
returns c =
    ap (line_of c.args.version)
    (sym (first_then node_of start_of c.args.text.now c.in-Some.prefix.1.now c.in-Some.prefix.0 (Some c.in-Some-start_of.start) (rw c.in-Some.is at c.node_before.ensures)
    (sym c.start_of.ensures ∙ c.in-Some-start_of.is)))
