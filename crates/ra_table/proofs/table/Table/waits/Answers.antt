use Rattle.std.proofs.Common.{arith}
use Rattle.std.proofs.lemmas.Bool.{false≢true}
use Rattle.ra_table.specs.Table.{empty_table}
use Rattle.ra_table.proofs.Checked.{name_table_waits}
use Rattle.ra_table.proofs.Kept.{shown, none_shown, is_free}
use Rattle.ra_table.proofs.table.Table.waits.Goals as goal

pub returns-in-Some-clause-waits : goal.returns-in-Some-clause-waits
returns-in-Some-clause-waits c =
    let holds = name_table_waits c.in-Some.name_table.now c.args.self.now c.args.entry.now (shown c.self.inside.name_tables c.args.self.now c.self.view_is c.self.invariant c.args.entry.now c.in-Some.name_table.now c.in-Some.ensures.value) in
    (λ yes. holds.0 (c.waits.ensures.0 yes), λ at. c.waits.ensures.1 (holds.1 at))

pub returns-in-Some-clause-exclusive : goal.returns-in-Some-clause-exclusive
returns-in-Some-clause-exclusive c = is_free c.self.inside.name_tables c.args.self.now c.self.view_is c.self.invariant c.args.entry.now

pub returns-in-None-clause-waits : goal.returns-in-None-clause-waits
returns-in-None-clause-waits c =
    let holds = name_table_waits empty_table c.args.self.now c.args.entry.now (none_shown c.self.inside.name_tables c.args.self.now c.self.view_is c.self.invariant c.args.entry.now c.in-None.ensures.value) in
    (λ yes. absurd (false≢true yes), λ at. absurd (omega (arith, (holds.1 at).1)))

pub returns-in-None-clause-exclusive : goal.returns-in-None-clause-exclusive
returns-in-None-clause-exclusive c = is_free c.self.inside.name_tables c.args.self.now c.self.view_is c.self.invariant c.args.entry.now
