use Rattle.std.proofs.Common.{refl, sym, ◌∙◌}
use Rattle.ra_table.specs.Table.{empty_table}
use Rattle.ra_table.proofs.Checked.{may_request}
use Rattle.ra_table.proofs.Kept.{empty_may, shown, none_shown, granted_on, is_free}
use Rattle.ra_table.proofs.table.Table.can_request.Goals as goal

pub check_request-requires : goal.check_request-requires
check_request-requires c = granted_on c.self.inside.name_tables c.args.self.now c.self.view_is c.self.invariant c.args.entry.now c.in-Some.name_table.now c.in-Some.ensures.value

pub returns-in-Some-clause-allowed : goal.returns-in-Some-clause-allowed
returns-in-Some-clause-allowed c =
    let may = may_request c.in-Some.name_table.now c.args.self.now c.args.entry.now (shown c.self.inside.name_tables c.args.self.now c.self.view_is c.self.invariant c.args.entry.now c.in-Some.name_table.now c.in-Some.ensures.value) in
    (λ yes. may.0 (c.check_request.ensures.allowed.0 (sym c.is_ok.ensures.value ∙ yes)), λ at. c.is_ok.ensures.value ∙ c.check_request.ensures.allowed.1 (may.1 at))

pub returns-in-Some-clause-exclusive : goal.returns-in-Some-clause-exclusive
returns-in-Some-clause-exclusive c = is_free c.self.inside.name_tables c.args.self.now c.self.view_is c.self.invariant c.args.entry.now

pub returns-in-None-clause-allowed : goal.returns-in-None-clause-allowed
returns-in-None-clause-allowed c = (λ _. (may_request empty_table c.args.self.now c.args.entry.now (none_shown c.self.inside.name_tables c.args.self.now c.self.view_is c.self.invariant c.args.entry.now c.in-None.ensures.value)).0 (empty_may c.args.entry.now), λ _. refl)

pub returns-in-None-clause-exclusive : goal.returns-in-None-clause-exclusive
returns-in-None-clause-exclusive c = is_free c.self.inside.name_tables c.args.self.now c.self.view_is c.self.invariant c.args.entry.now
