use Rattle.std.proofs.Common.{ℕ, sym, ap, ◌∙◌, subst}
use Rattle.std.specs.Prelude.{unwrap_or}
use Rattle.ra_table.specs.NameTables.{IsPlaceOf}
use Rattle.ra_table.proofs.Written.{place_found}
use Rattle.ra_table.proofs.table.place_of_name.Goals as goal

pub returns-then-is_at : goal.returns-then-is_at
returns-then-is_at c = c.is_at.ensures c.if-is_at.true

pub returns-then-is_at-2 : goal.returns-then-is_at-2
returns-then-is_at-2 c = c.is_at-2.ensures c.if-is_at-2.true

pub returns : goal.returns
returns c =
    let found = c.get_index_of.result in
    subst (IsPlaceOf c.args.name_tables.now.entries c.args.name.now) (sym (c.unwrap_or.ensures ∙ ap (λ (n : ℕ). unwrap_or found n) c.len.ensures.len))
    (place_found c.args.name_tables.now.entries c.args.name.now found c.get_index_of.ensures.index c.get_index_of.ensures.found c.get_index_of.ensures.value)
