use Rattle.std.proofs.Common.{Err, refl, sym, ◌∙◌}
use Rattle.ra_table.specs.declared.error.EnterError.TheVariants.{NotWaiting}
use Rattle.ra_table.specs.Table.{empty_table}
use Rattle.ra_table.proofs.Checked.{enter_tells}
use Rattle.indexmap.specs.IndexMap.{with_value_at}
use Rattle.ra_table.proofs.Written.{written_there}
use Rattle.ra_table.proofs.Kept.{shown, none_shown, enter_tried}
use Rattle.ra_table.proofs.Refused.{nobody_enters}
use Rattle.ra_table.proofs.table.Table.enter.Goals as goal

-- ---- The name has no table

pub returns-in_default-clause-exclusive : goal.returns-in_default-clause-exclusive
returns-in_default-clause-exclusive c = c.self.invariant.conflict_free

pub returns-in_default-clause-not_waiting : goal.returns-in_default-clause-not_waiting
returns-in_default-clause-not_waiting c = (enter_tells empty_table c.args.self.now c.args.entry.now (none_shown c.self.inside.name_tables c.args.self.now c.self.view_is c.self.invariant c.args.entry.now (c.in_default.ensures.value ∙ c.place_of_name-self-inside.ensures.found)) (Err NotWaiting) (nobody_enters c.args.entry.now)).not_waiting

pub returns-in_default-clause-held : goal.returns-in_default-clause-held
returns-in_default-clause-held c = (enter_tells empty_table c.args.self.now c.args.entry.now (none_shown c.self.inside.name_tables c.args.self.now c.self.view_is c.self.invariant c.args.entry.now (c.in_default.ensures.value ∙ c.place_of_name-self-inside.ensures.found)) (Err NotWaiting) (nobody_enters c.args.entry.now)).held

pub returns-in_default-clause-earlier : goal.returns-in_default-clause-earlier
returns-in_default-clause-earlier c = (enter_tells empty_table c.args.self.now c.args.entry.now (none_shown c.self.inside.name_tables c.args.self.now c.self.view_is c.self.invariant c.args.entry.now (c.in_default.ensures.value ∙ c.place_of_name-self-inside.ensures.found)) (Err NotWaiting) (nobody_enters c.args.entry.now)).earlier

pub returns-in_default-clause-allowed : goal.returns-in_default-clause-allowed
returns-in_default-clause-allowed c = (enter_tells empty_table c.args.self.now c.args.entry.now (none_shown c.self.inside.name_tables c.args.self.now c.self.view_is c.self.invariant c.args.entry.now (c.in_default.ensures.value ∙ c.place_of_name-self-inside.ensures.found)) (Err NotWaiting) (nobody_enters c.args.entry.now)).allowed

pub invariant_of-self : goal.invariant_of-self
invariant_of-self c = c.self.invariant

-- ---- It has one

pub invariant_of-self-2 : goal.invariant_of-self-2
invariant_of-self-2 c = (enter_tried c.self.inside.name_tables c.args.self.now c.self.view_is c.self.invariant c.args.entry.now (with_value_at c.self.inside.name_tables c.place_of_name-self-inside.result c.enter.new.self) c.in-Some.name_table.now c.enter.new.self (c.in-Some.ensures.value ∙ c.place_of_name-self-inside.ensures.found) (written_there c.self.inside.name_tables.entries c.args.entry.now.name c.place_of_name-self-inside.result c.enter.new.self c.self.invariant.distinct c.place_of_name-self-inside.ensures) c.enter.result c.enter.ensures.ok c.enter.ensures.err).still_kept

pub returns-clause-exclusive : goal.returns-clause-exclusive
returns-clause-exclusive c = (invariant_of-self-2 c).conflict_free

pub returns-clause-ok : goal.returns-clause-ok
returns-clause-ok c = (enter_tried c.self.inside.name_tables c.args.self.now c.self.view_is c.self.invariant c.args.entry.now (with_value_at c.self.inside.name_tables c.place_of_name-self-inside.result c.enter.new.self) c.in-Some.name_table.now c.enter.new.self (c.in-Some.ensures.value ∙ c.place_of_name-self-inside.ensures.found) (written_there c.self.inside.name_tables.entries c.args.entry.now.name c.place_of_name-self-inside.result c.enter.new.self c.self.invariant.distinct c.place_of_name-self-inside.ensures) c.enter.result c.enter.ensures.ok c.enter.ensures.err).ok

pub returns-clause-err : goal.returns-clause-err
returns-clause-err c = (enter_tried c.self.inside.name_tables c.args.self.now c.self.view_is c.self.invariant c.args.entry.now (with_value_at c.self.inside.name_tables c.place_of_name-self-inside.result c.enter.new.self) c.in-Some.name_table.now c.enter.new.self (c.in-Some.ensures.value ∙ c.place_of_name-self-inside.ensures.found) (written_there c.self.inside.name_tables.entries c.args.entry.now.name c.place_of_name-self-inside.result c.enter.new.self c.self.invariant.distinct c.place_of_name-self-inside.ensures) c.enter.result c.enter.ensures.ok c.enter.ensures.err).err

pub returns-clause-not_waiting : goal.returns-clause-not_waiting
returns-clause-not_waiting c = (enter_tells c.in-Some.name_table.now c.args.self.now c.args.entry.now (shown c.self.inside.name_tables c.args.self.now c.self.view_is c.self.invariant c.args.entry.now c.in-Some.name_table.now (c.in-Some.ensures.value ∙ c.place_of_name-self-inside.ensures.found)) c.enter.result c.enter.ensures.told).not_waiting

pub returns-clause-held : goal.returns-clause-held
returns-clause-held c = (enter_tells c.in-Some.name_table.now c.args.self.now c.args.entry.now (shown c.self.inside.name_tables c.args.self.now c.self.view_is c.self.invariant c.args.entry.now c.in-Some.name_table.now (c.in-Some.ensures.value ∙ c.place_of_name-self-inside.ensures.found)) c.enter.result c.enter.ensures.told).held

pub returns-clause-earlier : goal.returns-clause-earlier
returns-clause-earlier c = (enter_tells c.in-Some.name_table.now c.args.self.now c.args.entry.now (shown c.self.inside.name_tables c.args.self.now c.self.view_is c.self.invariant c.args.entry.now c.in-Some.name_table.now (c.in-Some.ensures.value ∙ c.place_of_name-self-inside.ensures.found)) c.enter.result c.enter.ensures.told).earlier

pub returns-clause-allowed : goal.returns-clause-allowed
returns-clause-allowed c = (enter_tells c.in-Some.name_table.now c.args.self.now c.args.entry.now (shown c.self.inside.name_tables c.args.self.now c.self.view_is c.self.invariant c.args.entry.now c.in-Some.name_table.now (c.in-Some.ensures.value ∙ c.place_of_name-self-inside.ensures.found)) c.enter.result c.enter.ensures.told).allowed

-- ---- Both

pub place_of_name-self-inside-requires : goal.place_of_name-self-inside-requires
place_of_name-self-inside-requires c = c.self.invariant.distinct
