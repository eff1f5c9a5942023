use Rattle.std.proofs.Common.{sym, ◌∙◌, arith}
use Rattle.std.proofs.lemmas.Bool.{false≢true}
use Rattle.ra_table.specs.Table.{empty_table}
use Rattle.ra_table.proofs.Checked.{may_enter}
use Rattle.ra_table.proofs.Kept.{shown, none_shown, is_free}
use Rattle.ra_table.proofs.table.Table.can_enter.Goals as goal

pub returns-in-Some-clause-allowed : goal.returns-in-Some-clause-allowed
returns-in-Some-clause-allowed c =
    let may = may_enter c.in-Some.name_table.now c.args.self.now c.args.entry.now (shown c.self.inside.name_tables c.args.self.now c.self.view_is c.self.invariant c.args.entry.now c.in-Some.name_table.now c.in-Some.ensures.value) in
    (λ yes. may.0 (c.check_enter.ensures.answered.allowed.0 (sym c.is_ok.ensures.value ∙ yes)), λ at. c.is_ok.ensures.value ∙ c.check_enter.ensures.answered.allowed.1 (may.1 at))

pub returns-in-Some-clause-exclusive : goal.returns-in-Some-clause-exclusive
returns-in-Some-clause-exclusive c = is_free c.self.inside.name_tables c.args.self.now c.self.view_is c.self.invariant c.args.entry.now

pub returns-in-None-clause-allowed : goal.returns-in-None-clause-allowed
returns-in-None-clause-allowed c = (λ yes. absurd (false≢true yes), λ may. absurd (omega (arith, ((may_enter empty_table c.args.self.now c.args.entry.now (none_shown c.self.inside.name_tables c.args.self.now c.self.view_is c.self.invariant c.args.entry.now c.in-None.ensures.value)).1 may).waits.1)))

pub returns-in-None-clause-exclusive : goal.returns-in-None-clause-exclusive
returns-in-None-clause-exclusive c = is_free c.self.inside.name_tables c.args.self.now c.self.view_is c.self.invariant c.args.entry.now
