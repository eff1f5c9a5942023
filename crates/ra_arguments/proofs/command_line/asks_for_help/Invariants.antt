use Rattle.std.proofs.Common.{◌≡◌, ℕ, ◌<◌, String, Global, string_bytes, slice_index_or}
use Rattle.ra_arguments.specs.Arguments.{IsHelpArgument}
use Rattle.ra_arguments.proofs.command_line.asks_for_help.Given as goal

-- no argument so far asks for help
abbrev pub invariant-loop-argument : goal.invariant-loop-argument
invariant-loop-argument l = (k : ℕ) → k < l.argument-index → (argument : String Global) → slice_index_or l.arguments k argument ≡ argument → IsHelpArgument (string_bytes argument) → ⊥
