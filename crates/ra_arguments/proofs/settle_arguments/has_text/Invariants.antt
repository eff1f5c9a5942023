use Rattle.std.proofs.Common.{◌≡◌, drop, map, string_bytes}
use Rattle.ra_arguments.specs.SettleArguments.{has_text}
use Rattle.ra_arguments.proofs.settle_arguments.has_text.Given as goal

-- none of the arguments so far is the text
abbrev pub invariant-loop-argument : goal.invariant-loop-argument
invariant-loop-argument l = has_text l.text (map string_bytes l.arguments) ≡ has_text l.text (map string_bytes (drop l.argument-index l.arguments))
