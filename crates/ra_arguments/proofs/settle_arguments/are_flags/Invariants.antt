use Rattle.std.proofs.Common.{◌≡◌, drop, map, string_bytes}
use Rattle.ra_arguments.specs.OptionTable.{rule_of_row}
use Rattle.ra_arguments.specs.SettleArguments.{are_flags}
use Rattle.ra_arguments.proofs.settle_arguments.are_flags.Given as goal

-- the arguments so far are flags that do not come again
abbrev pub invariant-loop-place : goal.invariant-loop-place
invariant-loop-place l =
    are_flags (map rule_of_row l.rows) (map string_bytes l.arguments) ≡ are_flags (map rule_of_row l.rows) (map string_bytes (drop l.place l.arguments))
