use Rattle.std.proofs.Common.{◌≡◌, List, ◌∷◌, [], ◌++◌, ap, ◌∙◌}
use Rattle.indexmap.proofs.CallerLemmas.{insert_entry-new}
use Rattle.std.specs.Str.{bytes_eq}
use Rattle.ra_stamp.specs.declared.entry.Entry.{Entry}
use Rattle.ra_table.specs.Table.{LockTable}
use Rattle.ra_table.proofs.Moves.{of_parts}
use Rattle.ra_table.proofs.name_table.NameTable.open.Goals as goal

pub returns-in-Ok-insert-clause-ok : goal.returns-in-Ok-insert-clause-ok
returns-in-Ok-insert-clause-ok c =
    let waits : c.push_exactly.new.list.items ≡ c.args.entry.now ∷ [] = c.in-Ok.ensures.ok ∙ ap (λ (l : List Entry). l ++ c.args.entry.now ∷ []) c.new-waiting.ensures.items in
    c.in-Ok-insert.ensures.entries
    ∙ insert_entry-new bytes_eq c.args.name_tables.now c.args.entry.now.name _ c.requires
    ∙ ap (λ (name_table : LockTable). c.args.name_tables.now.entries ++ (c.args.entry.now.name, name_table) ∷ [])
    (λ i. of_parts (waits i) (c.new.ensures.items i) (c.new-2.ensures i))
