use Rattle.std.proofs.Common.{arith}
use Rattle.ra_table.proofs.Idle.{each_idle}
use Rattle.ra_table.proofs.table.are_idle.Goals as goal

pub returns-then-not-is_idle : goal.returns-then-not-is_idle
returns-then-not-is_idle c =
    let all = each_idle c.args.name_tables.now.entries in
    let rest = c.loop-name_table.invariant.rest in
    grind (arith, all, rest)

pub returns : goal.returns
returns c =
    let all = each_idle c.args.name_tables.now.entries in
    let rest = c.loop-name_table.invariant.rest in
    grind (arith, all, rest)
