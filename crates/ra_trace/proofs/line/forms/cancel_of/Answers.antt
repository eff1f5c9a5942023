use Rattle.std.proofs.Common.{◌≡◌, ℕ, List, Option, Some, None, option_map, sym, ap, ◌∙◌}
use Rattle.ra_world.specs.declared.step.Step.TheVariants.{Cancel}
use Rattle.ra_trace.specs.declared.line.Line.{Line}
use Rattle.ra_trace.specs.declared.line.Line.TheVariants.{Stepped}
use Rattle.ra_trace.specs.Forms.{before, fields, node_of, client_of, name_of}
use Rattle.ra_trace.proofs.FieldReads.{no_first, first_then}
use Rattle.ra_trace.proofs.line.forms.cancel_of.Goals as goal

-- the line of what was read
abbrev line_of : Option (ℕ × (ℕ × List ℕ)) → Option Line
line_of read = option_map Stepped (option_map (λ f. Cancel f.0 f.1.0 f.1.1) read)

-- after node and client
then_rest : (text tail rest : List ℕ) (node client : ℕ) (found : Option (List ℕ)) → before node_of text ≡ Some (node, tail)
    → before client_of tail ≡ Some (client, rest) → name_of rest ≡ found
    → line_of (option_map (λ f. (node, f)) (option_map (λ f. (client, f)) found)) ≡ line_of (fields node_of (fields client_of name_of) text)
then_rest text tail rest node client found first second reads =
    ap line_of
    (sym (first_then node_of (fields client_of name_of) text tail node _ first (first_then client_of name_of tail rest client found second reads)))

pub returns-in_default : goal.returns-in_default
returns-in_default c = ap line_of (sym (no_first node_of (fields client_of name_of) c.args.text.now c.in_default.ensures))

pub returns-in_default-client_before : goal.returns-in_default-client_before
returns-in_default-client_before c =
    ap line_of
    (sym (first_then node_of (fields client_of name_of) c.args.text.now c.in-Some.prefix.1.now c.in-Some.prefix.0 None (rw c.in-Some.is at c.node_before.ensures)
    (no_first client_of name_of c.in-Some.prefix.1.now c.in_default-client_before.ensures)))

pub returns-in_default-name_of : goal.returns-in_default-name_of
returns-in_default-name_of c =
    then_rest c.args.text.now c.in-Some.prefix.1.now c.in-Some-client_before.name.now c.in-Some.prefix.0 c.in-Some-client_before.client None (rw c.in-Some.is at c.node_before.ensures)
    (rw c.in-Some-client_before.is at c.client_before.ensures) (sym c.name_of.ensures ∙ c.in_default-name_of.is)

pub returns : goal.returns
returns c =
    then_rest c.args.text.now c.in-Some.prefix.1.now c.in-Some-client_before.name.now c.in-Some.prefix.0 c.in-Some-client_before.client (Some c.in-Some-name_of.name) (rw c.in-Some.is at c.node_before.ensures)
    (rw c.in-Some-client_before.is at c.client_before.ensures) (sym c.name_of.ensures ∙ c.in-Some-name_of.is)
