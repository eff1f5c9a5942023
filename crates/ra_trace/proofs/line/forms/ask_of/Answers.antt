use Rattle.std.proofs.Common.{◌≡◌, ℕ, List, Option, Some, None, option_map, sym, ap, ◌∙◌}
use Rattle.ra_stamp.specs.declared.mode.Mode.{Mode}
use Rattle.ra_world.specs.declared.step.Step.TheVariants.{Ask}
use Rattle.ra_trace.specs.declared.line.Line.{Line}
use Rattle.ra_trace.specs.declared.line.Line.TheVariants.{Stepped}
use Rattle.ra_trace.specs.Forms.{before, fields, node_of, client_of, name_of, mode_of}
use Rattle.ra_trace.proofs.FieldReads.{uncut, cut_as, no_first, first_then}
use Rattle.ra_trace.proofs.line.forms.ask_of.Goals as goal

-- the line of what was read
abbrev line_of : Option (ℕ × (ℕ × (List ℕ × Mode))) → Option Line
line_of read = option_map Stepped (option_map (λ f. Ask f.0 f.1.0 f.1.1.0 f.1.1.1) read)

-- after node and client
then_rest : (text tail rest : List ℕ) (node client : ℕ) (found : Option (List ℕ × Mode)) → before node_of text ≡ Some (node, tail)
    → before client_of tail ≡ Some (client, rest) → fields name_of mode_of rest ≡ found
    → line_of (option_map (λ f. (node, f)) (option_map (λ f. (client, f)) found)) ≡ line_of (fields node_of (fields client_of (fields name_of mode_of)) text)
then_rest text tail rest node client found first second reads =
    ap line_of
    (sym (first_then node_of (fields client_of (fields name_of mode_of)) text tail node _ first
    (first_then client_of (fields name_of mode_of) tail rest client found second reads)))

pub returns-in_default : goal.returns-in_default
returns-in_default c = ap line_of (sym (no_first node_of (fields client_of (fields name_of mode_of)) c.args.text.now c.in_default.ensures))

pub returns-in_default-client_before : goal.returns-in_default-client_before
returns-in_default-client_before c =
    ap line_of
    (sym (first_then node_of (fields client_of (fields name_of mode_of)) c.args.text.now c.in-Some.prefix.1.now c.in-Some.prefix.0 None (rw c.in-Some.is at c.node_before.ensures)
    (no_first client_of (fields name_of mode_of) c.in-Some.prefix.1.now c.in_default-client_before.ensures)))

pub returns-in_default-split_once : goal.returns-in_default-split_once
returns-in_default-split_once c =
    let rest = c.in-Some-client_before.rest.now in
    then_rest c.args.text.now c.in-Some.prefix.1.now rest c.in-Some.prefix.0 c.in-Some-client_before.client None (rw c.in-Some.is at c.node_before.ensures) (rw c.in-Some-client_before.is at c.client_before.ensures)
    (no_first name_of mode_of rest (uncut name_of rest c.in_default-split_once.ensures))

pub returns-in_default-name_of : goal.returns-in_default-name_of
returns-in_default-name_of c =
    let rest = c.in-Some-client_before.rest.now in
    let parts = c.in-Some-split_once in
    then_rest c.args.text.now c.in-Some.prefix.1.now rest c.in-Some.prefix.0 c.in-Some-client_before.client None (rw c.in-Some.is at c.node_before.ensures) (rw c.in-Some-client_before.is at c.client_before.ensures)
    (no_first name_of mode_of rest (cut_as name_of rest parts.name.now parts.mode.now None (rw parts.is at c.split_once.ensures) (sym c.name_of.ensures ∙ c.in_default-name_of.is)))

pub returns-in_default-mode_of : goal.returns-in_default-mode_of
returns-in_default-mode_of c =
    let rest = c.in-Some-client_before.rest.now in
    let parts = c.in-Some-split_once in
    let name = c.in-Some-name_of.name in
    then_rest c.args.text.now c.in-Some.prefix.1.now rest c.in-Some.prefix.0 c.in-Some-client_before.client None (rw c.in-Some.is at c.node_before.ensures) (rw c.in-Some-client_before.is at c.client_before.ensures)
    (first_then name_of mode_of rest parts.mode.now name None
    (cut_as name_of rest parts.name.now parts.mode.now (Some name) (rw parts.is at c.split_once.ensures) (sym c.name_of.ensures ∙ c.in-Some-name_of.is))
    (sym c.mode_of.ensures ∙ c.in_default-mode_of.is))

pub returns : goal.returns
returns c =
    let rest = c.in-Some-client_before.rest.now in
    let parts = c.in-Some-split_once in
    let name = c.in-Some-name_of.name in
    let mode = c.in-Some-mode_of.mode in
    then_rest c.args.text.now c.in-Some.prefix.1.now rest c.in-Some.prefix.0 c.in-Some-client_before.client (Some (name, mode)) (rw c.in-Some.is at c.node_before.ensures) (rw c.in-Some-client_before.is at c.client_before.ensures)
    (first_then name_of mode_of rest parts.mode.now name (Some mode)
    (cut_as name_of rest parts.name.now parts.mode.now (Some name) (rw parts.is at c.split_once.ensures) (sym c.name_of.ensures ∙ c.in-Some-name_of.is))
    (sym c.mode_of.ensures ∙ c.in-Some-mode_of.is))
