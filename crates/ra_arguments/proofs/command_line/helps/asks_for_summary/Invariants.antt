use Rattle.std.proofs.Common.{◌≡◌, drop, map, string_bytes}
use Rattle.ra_arguments.specs.Helping.{asks_summary}
use Rattle.ra_arguments.proofs.command_line.helps.asks_for_summary.Given as goal

-- no argument so far asks for help
abbrev pub invariant-loop-argument : goal.invariant-loop-argument
invariant-loop-argument l = asks_summary (map string_bytes l.arguments) ≡ asks_summary (map string_bytes (drop l.argument-index l.arguments))
