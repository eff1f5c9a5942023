use Rattle.std.proofs.Common.{◌≡◌, ok_or, sym, ap, ◌∙◌, inl, rules}
use Rattle.toml.specs.View.{table_view}
use Rattle.ra_script.specs.declared.error.ScriptError.TheVariants as fault
use Rattle.ra_script.specs.Document.{key_count}
use Rattle.ra_script.proofs.Trees.{key_count-view, document_of-other, document_of-both}
use Rattle.ra_script.proofs.script_reading.document.document_of.Goals as goal

pub returns-then-len-ne2-clause-err : goal.returns-then-len-ne2-clause-err
returns-then-len-ne2-clause-err c =
    let count = key_count-view c.args.tree.now.entries in
    let none = document_of-other (table_view c.args.tree.now) (λ two. c.if-len-ne2.true (c.len.ensures.len ∙ (sym count ∙ two))) in
    inl (ap (λ o. ok_or o fault.Shape) none)

pub returns-in_ok-clients_of-in-Some-Some-clause-ok :
    goal.returns-in_ok-clients_of-in-Some-Some-clause-ok
returns-in_ok-clients_of-in-Some-Some-clause-ok c =
    let count = key_count-view c.args.tree.now.entries in
    let two : key_count (table_view c.args.tree.now) ≡ 2 = count ∙ (sym c.len.ensures.len ∙ c.if-len-ne2.false) in
    let nodes = rw c.in-Some-Some.is-0 at c.integer_at.ensures in
    let tables = rw c.in-Some-Some.is-1 at c.array_at.ensures in
    document_of-both (table_view c.args.tree.now) c.in-Some-Some.nodes _ _ two nodes tables c.in_ok-clients_of-in-Some-Some.ensures.ok ∙ search rules
