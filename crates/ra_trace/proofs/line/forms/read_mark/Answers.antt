use Rattle.std.proofs.Common.{◌≡◌, ℕ, List, Option, Some, None, option_map, sym, ap, ◌∙◌}
use Rattle.ra_stamp.specs.declared.mode.Mode.{Mode}
use Rattle.ra_trace.specs.declared.line.Line.{Line}
use Rattle.ra_trace.specs.declared.line.forms.Change.{Change}
use Rattle.ra_trace.specs.Forms.{before, fields, node_of, client_of, name_of, mode_of, seq_of, entry_line}
use Rattle.ra_trace.proofs.FieldReads.{no_first, first_then}
use Rattle.ra_trace.proofs.line.forms.read_mark.Goals as goal

-- the line of what was read
abbrev line_of : Change → Option (ℕ × (ℕ × (List ℕ × (Mode × ℕ)))) → Option Line
line_of change read = option_map (entry_line change) (option_map (λ f. record {
  name = f.1.1.0;
  stamp = record { seq = f.1.1.1.1; node = f.0 };
  client = f.1.0;
  mode = f.1.1.1.0;
}) read)

-- after node and client
then_rest : (change : Change) (text tail rest : List ℕ) (node client : ℕ) (found : Option (List ℕ × (Mode × ℕ))) → before node_of text ≡ Some (node, tail)
    → before client_of tail ≡ Some (client, rest) → fields name_of (fields mode_of seq_of) rest ≡ found
    → line_of change (option_map (λ f. (node, f)) (option_map (λ f. (client, f)) found)) ≡ line_of change (fields node_of (fields client_of (fields name_of (fields mode_of seq_of))) text)
then_rest change text tail rest node client found first second reads =
    ap (line_of change)
    (sym (first_then node_of (fields client_of (fields name_of (fields mode_of seq_of))) text tail node _ first
    (first_then client_of (fields name_of (fields mode_of seq_of)) tail rest client found second reads)))

pub returns-in_default : goal.returns-in_default
returns-in_default c =
    ap (line_of c.args.change) (sym (no_first node_of (fields client_of (fields name_of (fields mode_of seq_of))) c.args.text.now c.in_default.ensures))

pub returns-in_default-client_before : goal.returns-in_default-client_before
returns-in_default-client_before c =
    ap (line_of c.args.change)
    (sym (first_then node_of (fields client_of (fields name_of (fields mode_of seq_of))) c.args.text.now c.in-Some.prefix.1.now c.in-Some.prefix.0 None (rw c.in-Some.is at c.node_before.ensures)
    (no_first client_of (fields name_of (fields mode_of seq_of)) c.in-Some.prefix.1.now c.in_default-client_before.ensures)))

pub returns-in_default-name_mode_and_seq_of : goal.returns-in_default-name_mode_and_seq_of
returns-in_default-name_mode_and_seq_of c =
    let second = c.in-Some-client_before in
    then_rest c.args.change c.args.text.now c.in-Some.prefix.1.now second.rest.now c.in-Some.prefix.0 second.client None (rw c.in-Some.is at c.node_before.ensures)
    (rw second.is at c.client_before.ensures) (sym c.name_mode_and_seq_of.ensures ∙ c.in_default-name_mode_and_seq_of.is)

pub returns : goal.returns
returns c =
    let second = c.in-Some-client_before in
    let last = c.in-Some-name_mode_and_seq_of in
    ap Some c.line_of.ensures
    ∙ then_rest c.args.change c.args.text.now c.in-Some.prefix.1.now second.rest.now c.in-Some.prefix.0 second.client (Some last.others) (rw c.in-Some.is at c.node_before.ensures)
    (rw second.is at c.client_before.ensures) (sym c.name_mode_and_seq_of.ensures ∙ last.is)
