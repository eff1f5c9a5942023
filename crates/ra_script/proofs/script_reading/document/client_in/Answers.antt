use Rattle.std.proofs.Common.{◌≡◌, ok_or, sym, ap, ◌∙◌, inl, rules}
use Rattle.toml.specs.View.{table_view}
use Rattle.ra_script.specs.declared.error.ScriptError.TheVariants as fault
use Rattle.ra_script.specs.Document.{key_count}
use Rattle.ra_script.proofs.Trees.{key_count-view, client_in-other, client_in-both}
use Rattle.ra_script.proofs.script_reading.document.client_in.Goals as goal

pub returns-then-len-ne2-clause-err : goal.returns-then-len-ne2-clause-err
returns-then-len-ne2-clause-err c =
    let count = key_count-view c.args.table.now.entries in
    let none = client_in-other (table_view c.args.table.now) (λ two. c.if-len-ne2.true (c.len.ensures.len ∙ (sym count ∙ two))) in
    inl (ap (λ o. ok_or o fault.Shape) none)

pub returns-in_ok-strings_of-in-Some-Some-clause-ok :
    goal.returns-in_ok-strings_of-in-Some-Some-clause-ok
returns-in_ok-strings_of-in-Some-Some-clause-ok c =
    let count = key_count-view c.args.table.now.entries in
    let two : key_count (table_view c.args.table.now) ≡ 2 = count ∙ (sym c.len.ensures.len ∙ c.if-len-ne2.false) in
    let node = rw c.in-Some-Some.is-0 at c.integer_at.ensures in
    let ops = rw c.in-Some-Some.is-1 at c.array_at.ensures in
    client_in-both (table_view c.args.table.now) c.in-Some-Some.node _ _ two node ops c.in_ok-strings_of-in-Some-Some.ensures.ok ∙ search rules
