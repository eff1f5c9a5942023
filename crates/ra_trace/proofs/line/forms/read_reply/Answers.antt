use Rattle.std.proofs.Common.{◌≡◌, ℕ, List, Option, Some, None, option_map, sym, ap, ◌∙◌}
use Rattle.ra_stamp.specs.declared.message.Message.TheVariants.{Reply}
use Rattle.ra_trace.specs.declared.line.Line.{Line}
use Rattle.ra_trace.specs.declared.line.forms.Fate.{Fate}
use Rattle.ra_trace.specs.Forms.{before, fields, node_of, name_of, seq_of, sent_line}
use Rattle.ra_trace.proofs.FieldReads.{uncut, cut_as, no_first, first_then}
use Rattle.ra_trace.proofs.line.forms.read_reply.Goals as goal

-- the line of what was read
abbrev line_of : Fate → Option (ℕ × (ℕ × (List ℕ × ℕ))) → Option Line
line_of fate read = option_map (sent_line fate) (option_map (λ f. Reply f.0 f.1.0 f.1.1.0 f.1.1.1) read)

-- after sender and receiver
then_rest : (fate : Fate) (text tail rest : List ℕ) (from to : ℕ) (found : Option (List ℕ × ℕ)) → before node_of text ≡ Some (from, tail)
    → before node_of tail ≡ Some (to, rest) → fields name_of seq_of rest ≡ found
    → line_of fate (option_map (λ f. (from, f)) (option_map (λ f. (to, f)) found)) ≡ line_of fate (fields node_of (fields node_of (fields name_of seq_of)) text)
then_rest fate text tail rest from to found first second reads =
    ap (line_of fate)
    (sym (first_then node_of (fields node_of (fields name_of seq_of)) text tail from _ first
    (first_then node_of (fields name_of seq_of) tail rest to found second reads)))

pub returns-in_default : goal.returns-in_default
returns-in_default c = ap (line_of c.args.fate) (sym (no_first node_of (fields node_of (fields name_of seq_of)) c.args.text.now c.in_default.ensures))

pub returns-in_default-node_before : goal.returns-in_default-node_before
returns-in_default-node_before c =
    ap (line_of c.args.fate)
    (sym (first_then node_of (fields node_of (fields name_of seq_of)) c.args.text.now c.in-Some.prefix.1.now c.in-Some.prefix.0 None (rw c.in-Some.is at c.node_before.ensures)
    (no_first node_of (fields name_of seq_of) c.in-Some.prefix.1.now c.in_default-node_before.ensures)))

pub returns-in_default-split_once : goal.returns-in_default-split_once
returns-in_default-split_once c =
    let second = c.in-Some-node_before.second in
    let rest = second.1.now in
    then_rest c.args.fate c.args.text.now c.in-Some.prefix.1.now rest c.in-Some.prefix.0 second.0 None (rw c.in-Some.is at c.node_before.ensures) (rw c.in-Some-node_before.is at c.node_before-2.ensures)
    (no_first name_of seq_of rest (uncut name_of rest c.in_default-split_once.ensures))

pub returns-in_default-name_of : goal.returns-in_default-name_of
returns-in_default-name_of c =
    let second = c.in-Some-node_before.second in
    let rest = second.1.now in
    let parts = c.in-Some-split_once in
    then_rest c.args.fate c.args.text.now c.in-Some.prefix.1.now rest c.in-Some.prefix.0 second.0 None (rw c.in-Some.is at c.node_before.ensures) (rw c.in-Some-node_before.is at c.node_before-2.ensures)
    (no_first name_of seq_of rest (cut_as name_of rest parts.name.now parts.seq.now None (rw parts.is at c.split_once.ensures) (sym c.name_of.ensures ∙ c.in_default-name_of.is)))

pub returns-in_default-seq_of : goal.returns-in_default-seq_of
returns-in_default-seq_of c =
    let second = c.in-Some-node_before.second in
    let rest = second.1.now in
    let parts = c.in-Some-split_once in
    let name = c.in-Some-name_of.name in
    then_rest c.args.fate c.args.text.now c.in-Some.prefix.1.now rest c.in-Some.prefix.0 second.0 None (rw c.in-Some.is at c.node_before.ensures) (rw c.in-Some-node_before.is at c.node_before-2.ensures)
    (first_then name_of seq_of rest parts.seq.now name None
    (cut_as name_of rest parts.name.now parts.seq.now (Some name) (rw parts.is at c.split_once.ensures) (sym c.name_of.ensures ∙ c.in-Some-name_of.is))
    (sym c.seq_of.ensures ∙ c.in_default-seq_of.is))

pub returns : goal.returns
returns c =
    let second = c.in-Some-node_before.second in
    let rest = second.1.now in
    let parts = c.in-Some-split_once in
    let name = c.in-Some-name_of.name in
    let seq = c.in-Some-seq_of.seq in
    ap Some c.line_of.ensures
    ∙ then_rest c.args.fate c.args.text.now c.in-Some.prefix.1.now rest c.in-Some.prefix.0 second.0 (Some (name, seq)) (rw c.in-Some.is at c.node_before.ensures) (rw c.in-Some-node_before.is at c.node_before-2.ensures)
    (first_then name_of seq_of rest parts.seq.now name (Some seq)
    (cut_as name_of rest parts.name.now parts.seq.now (Some name) (rw parts.is at c.split_once.ensures) (sym c.name_of.ensures ∙ c.in-Some-name_of.is))
    (sym c.seq_of.ensures ∙ c.in-Some-seq_of.is))
