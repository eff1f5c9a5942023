use Rattle.std.proofs.Common.{refl, sym, ◌∙◌}
use Rattle.ra_table.specs.Table.{empty_table}
use Rattle.ra_table.proofs.Checked.{request_tells}
use Rattle.indexmap.specs.IndexMap.{with_value_at}
use Rattle.ra_table.proofs.Written.{written_there}
use Rattle.ra_table.proofs.Kept.{empty_may, shown, none_shown, granted_on, request_tried, open_tried}
use Rattle.ra_table.proofs.Refused.{request_made}
use Rattle.ra_table.proofs.table.Table.request.Goals as goal

-- ---- The name has a table

pub invariant_of-self-2 : goal.invariant_of-self-2
invariant_of-self-2 c = (request_tried c.self.inside.name_tables c.args.self.now c.self.view_is c.self.invariant c.args.entry (with_value_at c.self.inside.name_tables c.place_of_name-self-inside.result c.request.new.self) c.in-Some.name_table.now c.request.new.self (c.in-Some.ensures.value ∙ c.place_of_name-self-inside.ensures.found) (written_there c.self.inside.name_tables.entries c.args.entry.name c.place_of_name-self-inside.result c.request.new.self c.self.invariant.distinct c.place_of_name-self-inside.ensures) c.request.result c.request.ensures.ok c.request.ensures.err).still_kept

pub returns-clause-exclusive : goal.returns-clause-exclusive
returns-clause-exclusive c = (invariant_of-self-2 c).conflict_free

pub returns-clause-ok : goal.returns-clause-ok
returns-clause-ok c = (request_tried c.self.inside.name_tables c.args.self.now c.self.view_is c.self.invariant c.args.entry (with_value_at c.self.inside.name_tables c.place_of_name-self-inside.result c.request.new.self) c.in-Some.name_table.now c.request.new.self (c.in-Some.ensures.value ∙ c.place_of_name-self-inside.ensures.found) (written_there c.self.inside.name_tables.entries c.args.entry.name c.place_of_name-self-inside.result c.request.new.self c.self.invariant.distinct c.place_of_name-self-inside.ensures) c.request.result c.request.ensures.ok c.request.ensures.err).ok

pub returns-clause-err : goal.returns-clause-err
returns-clause-err c = (request_tried c.self.inside.name_tables c.args.self.now c.self.view_is c.self.invariant c.args.entry (with_value_at c.self.inside.name_tables c.place_of_name-self-inside.result c.request.new.self) c.in-Some.name_table.now c.request.new.self (c.in-Some.ensures.value ∙ c.place_of_name-self-inside.ensures.found) (written_there c.self.inside.name_tables.entries c.args.entry.name c.place_of_name-self-inside.result c.request.new.self c.self.invariant.distinct c.place_of_name-self-inside.ensures) c.request.result c.request.ensures.ok c.request.ensures.err).err

pub returns-clause-node_busy : goal.returns-clause-node_busy
returns-clause-node_busy c = (request_tells c.in-Some.name_table.now c.args.self.now c.args.entry (shown c.self.inside.name_tables c.args.self.now c.self.view_is c.self.invariant c.args.entry c.in-Some.name_table.now (c.in-Some.ensures.value ∙ c.place_of_name-self-inside.ensures.found)) c.request.result c.request.ensures.told).node_busy

pub returns-clause-not_above : goal.returns-clause-not_above
returns-clause-not_above c = (request_tells c.in-Some.name_table.now c.args.self.now c.args.entry (shown c.self.inside.name_tables c.args.self.now c.self.view_is c.self.invariant c.args.entry c.in-Some.name_table.now (c.in-Some.ensures.value ∙ c.place_of_name-self-inside.ensures.found)) c.request.result c.request.ensures.told).not_above

pub returns-clause-allowed : goal.returns-clause-allowed
returns-clause-allowed c = (request_tells c.in-Some.name_table.now c.args.self.now c.args.entry (shown c.self.inside.name_tables c.args.self.now c.self.view_is c.self.invariant c.args.entry c.in-Some.name_table.now (c.in-Some.ensures.value ∙ c.place_of_name-self-inside.ensures.found)) c.request.result c.request.ensures.told).allowed

pub request-requires : goal.request-requires
request-requires c = granted_on c.self.inside.name_tables c.args.self.now c.self.view_is c.self.invariant c.args.entry c.in-Some.name_table.now (c.in-Some.ensures.value ∙ c.place_of_name-self-inside.ensures.found)

-- ---- The name gets its first table

pub invariant_of-self : goal.invariant_of-self
invariant_of-self c = (open_tried c.self.inside.name_tables c.args.self.now c.self.view_is c.self.invariant c.args.entry c.self.inside.name_tables c.open.new.name_tables refl (c.in_default.ensures.value ∙ c.place_of_name-self-inside.ensures.found) c.open.result c.open.ensures.ok c.open.ensures.unique c.open.ensures.err).still_kept

pub returns-in_default-clause-exclusive : goal.returns-in_default-clause-exclusive
returns-in_default-clause-exclusive c = (invariant_of-self c).conflict_free

pub returns-in_default-clause-ok : goal.returns-in_default-clause-ok
returns-in_default-clause-ok c = (open_tried c.self.inside.name_tables c.args.self.now c.self.view_is c.self.invariant c.args.entry c.self.inside.name_tables c.open.new.name_tables refl (c.in_default.ensures.value ∙ c.place_of_name-self-inside.ensures.found) c.open.result c.open.ensures.ok c.open.ensures.unique c.open.ensures.err).ok

pub returns-in_default-clause-err : goal.returns-in_default-clause-err
returns-in_default-clause-err c = (open_tried c.self.inside.name_tables c.args.self.now c.self.view_is c.self.invariant c.args.entry c.self.inside.name_tables c.open.new.name_tables refl (c.in_default.ensures.value ∙ c.place_of_name-self-inside.ensures.found) c.open.result c.open.ensures.ok c.open.ensures.unique c.open.ensures.err).err

pub returns-in_default-clause-node_busy : goal.returns-in_default-clause-node_busy
returns-in_default-clause-node_busy c = (request_tells empty_table c.args.self.now c.args.entry (none_shown c.self.inside.name_tables c.args.self.now c.self.view_is c.self.invariant c.args.entry (c.in_default.ensures.value ∙ c.place_of_name-self-inside.ensures.found)) c.open.result (request_made c.open.result empty_table c.args.entry (empty_may c.args.entry) c.open.ensures.memory)).node_busy

pub returns-in_default-clause-not_above : goal.returns-in_default-clause-not_above
returns-in_default-clause-not_above c = (request_tells empty_table c.args.self.now c.args.entry (none_shown c.self.inside.name_tables c.args.self.now c.self.view_is c.self.invariant c.args.entry (c.in_default.ensures.value ∙ c.place_of_name-self-inside.ensures.found)) c.open.result (request_made c.open.result empty_table c.args.entry (empty_may c.args.entry) c.open.ensures.memory)).not_above

pub returns-in_default-clause-allowed : goal.returns-in_default-clause-allowed
returns-in_default-clause-allowed c = (request_tells empty_table c.args.self.now c.args.entry (none_shown c.self.inside.name_tables c.args.self.now c.self.view_is c.self.invariant c.args.entry (c.in_default.ensures.value ∙ c.place_of_name-self-inside.ensures.found)) c.open.result (request_made c.open.result empty_table c.args.entry (empty_may c.args.entry) c.open.ensures.memory)).allowed

-- ---- Both

pub place_of_name-self-inside-requires : goal.place_of_name-self-inside-requires
place_of_name-self-inside-requires c = c.self.invariant.distinct

pub open-requires : goal.open-requires
open-requires c = sym (c.in_default.ensures.value ∙ c.place_of_name-self-inside.ensures.found)
