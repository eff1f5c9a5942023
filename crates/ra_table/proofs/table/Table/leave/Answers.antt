use Rattle.std.proofs.Common.{refl, sym, ◌∙◌, arith}
use Rattle.std.proofs.lemmas.Bool.{false≢true}
use Rattle.ra_table.specs.Table.{empty_table}
use Rattle.ra_table.proofs.Checked.{name_table_holds}
use Rattle.indexmap.specs.IndexMap.{with_value_at}
use Rattle.ra_table.proofs.Written.{written_there}
use Rattle.ra_table.proofs.Kept.{shown, none_shown, leave_tried}
use Rattle.ra_table.proofs.Refused.{not_held_told}
use Rattle.ra_table.proofs.table.Table.leave.Goals as goal

-- ---- The name has no table

pub returns-in_default-clause-exclusive : goal.returns-in_default-clause-exclusive
returns-in_default-clause-exclusive c = c.self.invariant.conflict_free

pub returns-in_default-clause-held : goal.returns-in_default-clause-held
returns-in_default-clause-held c =
    let holds = name_table_holds empty_table c.args.self.now c.args.entry.now (none_shown c.self.inside.name_tables c.args.self.now c.self.view_is c.self.invariant c.args.entry.now (c.in_default.ensures.value ∙ c.place_of_name-self-inside.ensures.found)) in
    (λ ok. absurd (false≢true ok), λ at. absurd (omega (arith, (holds.1 at).1)))

pub returns-in_default-clause-not_held : goal.returns-in_default-clause-not_held
returns-in_default-clause-not_held c =
    let holds = name_table_holds empty_table c.args.self.now c.args.entry.now (none_shown c.self.inside.name_tables c.args.self.now c.self.view_is c.self.invariant c.args.entry.now (c.in_default.ensures.value ∙ c.place_of_name-self-inside.ensures.found)) in
    (λ _ at. absurd (omega (arith, (holds.1 at).1)), λ _. refl)

pub invariant_of-self : goal.invariant_of-self
invariant_of-self c = c.self.invariant

-- ---- It has one

pub invariant_of-self-2 : goal.invariant_of-self-2
invariant_of-self-2 c = (leave_tried c.self.inside.name_tables c.args.self.now c.self.view_is c.self.invariant c.args.entry.now (with_value_at c.self.inside.name_tables c.place_of_name-self-inside.result c.leave.new.self) c.in-Some.name_table.now c.leave.new.self (c.in-Some.ensures.value ∙ c.place_of_name-self-inside.ensures.found) (written_there c.self.inside.name_tables.entries c.args.entry.now.name c.place_of_name-self-inside.result c.leave.new.self c.self.invariant.distinct c.place_of_name-self-inside.ensures) c.leave.result c.leave.ensures.ok c.leave.ensures.err).still_kept

pub returns-clause-exclusive : goal.returns-clause-exclusive
returns-clause-exclusive c = (invariant_of-self-2 c).conflict_free

pub returns-clause-ok : goal.returns-clause-ok
returns-clause-ok c = (leave_tried c.self.inside.name_tables c.args.self.now c.self.view_is c.self.invariant c.args.entry.now (with_value_at c.self.inside.name_tables c.place_of_name-self-inside.result c.leave.new.self) c.in-Some.name_table.now c.leave.new.self (c.in-Some.ensures.value ∙ c.place_of_name-self-inside.ensures.found) (written_there c.self.inside.name_tables.entries c.args.entry.now.name c.place_of_name-self-inside.result c.leave.new.self c.self.invariant.distinct c.place_of_name-self-inside.ensures) c.leave.result c.leave.ensures.ok c.leave.ensures.err).ok

pub returns-clause-err : goal.returns-clause-err
returns-clause-err c = (leave_tried c.self.inside.name_tables c.args.self.now c.self.view_is c.self.invariant c.args.entry.now (with_value_at c.self.inside.name_tables c.place_of_name-self-inside.result c.leave.new.self) c.in-Some.name_table.now c.leave.new.self (c.in-Some.ensures.value ∙ c.place_of_name-self-inside.ensures.found) (written_there c.self.inside.name_tables.entries c.args.entry.now.name c.place_of_name-self-inside.result c.leave.new.self c.self.invariant.distinct c.place_of_name-self-inside.ensures) c.leave.result c.leave.ensures.ok c.leave.ensures.err).err

pub returns-clause-held : goal.returns-clause-held
returns-clause-held c =
    let holds = name_table_holds c.in-Some.name_table.now c.args.self.now c.args.entry.now (shown c.self.inside.name_tables c.args.self.now c.self.view_is c.self.invariant c.args.entry.now c.in-Some.name_table.now (c.in-Some.ensures.value ∙ c.place_of_name-self-inside.ensures.found)) in
    (λ ok. holds.0 (c.leave.ensures.held.0 ok), λ at. c.leave.ensures.held.1 (holds.1 at))

pub returns-clause-not_held : goal.returns-clause-not_held
returns-clause-not_held c =
    not_held_told c.leave.result _ _ c.leave.ensures.held (name_table_holds c.in-Some.name_table.now c.args.self.now c.args.entry.now (shown c.self.inside.name_tables c.args.self.now c.self.view_is c.self.invariant c.args.entry.now c.in-Some.name_table.now (c.in-Some.ensures.value ∙ c.place_of_name-self-inside.ensures.found)))

-- ---- Both

pub place_of_name-self-inside-requires : goal.place_of_name-self-inside-requires
place_of_name-self-inside-requires c = c.self.invariant.distinct
