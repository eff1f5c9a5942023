use Rattle.std.proofs.Common.{refl, sym, ◌∙◌, arith}
use Rattle.std.proofs.lemmas.Bool.{false≢true}
use Rattle.ra_table.specs.Table.{empty_table}
use Rattle.ra_table.proofs.Checked.{name_table_waits}
use Rattle.indexmap.specs.IndexMap.{with_value_at}
use Rattle.ra_table.proofs.Written.{written_there}
use Rattle.ra_table.proofs.Kept.{shown, none_shown, withdraw_tried}
use Rattle.ra_table.proofs.Refused.{not_waiting_told}
use Rattle.ra_table.proofs.table.Table.withdraw.Goals as goal

-- ---- The name has no table

pub returns-in_default-clause-exclusive : goal.returns-in_default-clause-exclusive
returns-in_default-clause-exclusive c = c.self.invariant.conflict_free

pub returns-in_default-clause-waits : goal.returns-in_default-clause-waits
returns-in_default-clause-waits c =
    let holds = name_table_waits empty_table c.args.self.now c.args.entry.now (none_shown c.self.inside.name_tables c.args.self.now c.self.view_is c.self.invariant c.args.entry.now (c.in_default.ensures.value ∙ c.place_of_name-self-inside.ensures.found)) in
    (λ ok. absurd (false≢true ok), λ at. absurd (omega (arith, (holds.1 at).1)))

pub returns-in_default-clause-not_waiting : goal.returns-in_default-clause-not_waiting
returns-in_default-clause-not_waiting c =
    let holds = name_table_waits empty_table c.args.self.now c.args.entry.now (none_shown c.self.inside.name_tables c.args.self.now c.self.view_is c.self.invariant c.args.entry.now (c.in_default.ensures.value ∙ c.place_of_name-self-inside.ensures.found)) in
    (λ _ at. absurd (omega (arith, (holds.1 at).1)), λ _. refl)

pub invariant_of-self : goal.invariant_of-self
invariant_of-self c = c.self.invariant

-- ---- It has one

pub invariant_of-self-2 : goal.invariant_of-self-2
invariant_of-self-2 c = (withdraw_tried c.self.inside.name_tables c.args.self.now c.self.view_is c.self.invariant c.args.entry.now (with_value_at c.self.inside.name_tables c.place_of_name-self-inside.result c.withdraw.new.self) c.in-Some.name_table.now c.withdraw.new.self (c.in-Some.ensures.value ∙ c.place_of_name-self-inside.ensures.found) (written_there c.self.inside.name_tables.entries c.args.entry.now.name c.place_of_name-self-inside.result c.withdraw.new.self c.self.invariant.distinct c.place_of_name-self-inside.ensures) c.withdraw.result c.withdraw.ensures.ok c.withdraw.ensures.err).still_kept

pub returns-clause-exclusive : goal.returns-clause-exclusive
returns-clause-exclusive c = (invariant_of-self-2 c).conflict_free

pub returns-clause-ok : goal.returns-clause-ok
returns-clause-ok c = (withdraw_tried c.self.inside.name_tables c.args.self.now c.self.view_is c.self.invariant c.args.entry.now (with_value_at c.self.inside.name_tables c.place_of_name-self-inside.result c.withdraw.new.self) c.in-Some.name_table.now c.withdraw.new.self (c.in-Some.ensures.value ∙ c.place_of_name-self-inside.ensures.found) (written_there c.self.inside.name_tables.entries c.args.entry.now.name c.place_of_name-self-inside.result c.withdraw.new.self c.self.invariant.distinct c.place_of_name-self-inside.ensures) c.withdraw.result c.withdraw.ensures.ok c.withdraw.ensures.err).ok

pub returns-clause-err : goal.returns-clause-err
returns-clause-err c = (withdraw_tried c.self.inside.name_tables c.args.self.now c.self.view_is c.self.invariant c.args.entry.now (with_value_at c.self.inside.name_tables c.place_of_name-self-inside.result c.withdraw.new.self) c.in-Some.name_table.now c.withdraw.new.self (c.in-Some.ensures.value ∙ c.place_of_name-self-inside.ensures.found) (written_there c.self.inside.name_tables.entries c.args.entry.now.name c.place_of_name-self-inside.result c.withdraw.new.self c.self.invariant.distinct c.place_of_name-self-inside.ensures) c.withdraw.result c.withdraw.ensures.ok c.withdraw.ensures.err).err

pub returns-clause-waits : goal.returns-clause-waits
returns-clause-waits c =
    let holds = name_table_waits c.in-Some.name_table.now c.args.self.now c.args.entry.now (shown c.self.inside.name_tables c.args.self.now c.self.view_is c.self.invariant c.args.entry.now c.in-Some.name_table.now (c.in-Some.ensures.value ∙ c.place_of_name-self-inside.ensures.found)) in
    (λ ok. holds.0 (c.withdraw.ensures.waits.0 ok), λ at. c.withdraw.ensures.waits.1 (holds.1 at))

pub returns-clause-not_waiting : goal.returns-clause-not_waiting
returns-clause-not_waiting c =
    not_waiting_told c.withdraw.result _ _ c.withdraw.ensures.waits (name_table_waits c.in-Some.name_table.now c.args.self.now c.args.entry.now (shown c.self.inside.name_tables c.args.self.now c.self.view_is c.self.invariant c.args.entry.now c.in-Some.name_table.now (c.in-Some.ensures.value ∙ c.place_of_name-self-inside.ensures.found)))

-- ---- Both

pub place_of_name-self-inside-requires : goal.place_of_name-self-inside-requires
place_of_name-self-inside-requires c = c.self.invariant.distinct
