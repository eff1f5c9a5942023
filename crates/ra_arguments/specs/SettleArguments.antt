-- Which arguments ask `ra` to settle books. They are known without the parser, so that memory can't run out for them.
use Rattle.std.specs.Prelude.{◌≡◌, ◌++◌, ◌&&◌, ◌||◌, Bool, true, false, not, List, [], ◌∷◌, Option, Some, None, option_map, codes, if◌then◌else◌}
use Rattle.std.specs.Str.{bytes_eq}
use Rattle.clap.specs.Words.{Rule, Text}
use Rattle.clap.specs.declared.builder.action.ArgAction.{ArgAction}
use Rattle.clap.specs.declared.builder.action.ArgAction.TheVariants as action
use Rattle.ra_arguments.specs.declared.settle_arguments.SettleOutput.TheVariants.{Lines, Objects, Trace}
use Rattle.ra_arguments.specs.declared.settle_arguments.SettleOutput.{SettleOutput}
use Rattle.ra_arguments.specs.declared.settle_arguments.SettleTask.{SettleTask}
use Rattle.ra_arguments.specs.Application.{settle_options}

-- ---- options that take nothing

-- an option with this action takes nothing, and is not help
abbrev pub takes_nothing : Option ArgAction → Bool
takes_nothing (Some action.SetTrue) = true
takes_nothing _ = false

-- the argument is this option, which takes nothing
abbrev pub is_flag : (argument : Text) → Rule → Bool
is_flag argument rule = takes_nothing rule.action && bytes_eq argument (codes "--" ++ rule.id)

-- the argument is one of these options, which takes nothing
abbrev pub is_flag_among : List Rule → (argument : Text) → Bool
is_flag_among [] argument = false
is_flag_among (rule ∷ rules) argument = is_flag argument rule || is_flag_among rules argument

-- one of the arguments is this text
abbrev pub has_text : Text → (arguments : List Text) → Bool
has_text text [] = false
has_text text (argument ∷ arguments) = bytes_eq argument text || has_text text arguments

-- each argument is such an option, and none comes twice
abbrev pub are_flags : List Rule → (arguments : List Text) → Bool
are_flags rules [] = true
are_flags rules (argument ∷ arguments) =
    if is_flag_among rules argument && not (has_text argument arguments) then are_flags rules arguments else false

-- ---- `settle`

-- what is printed, if at most one thing is to be in place of the lines
abbrev pub output_by : (traces objects : Bool) → Option SettleOutput
output_by false false = Some Lines
output_by true false = Some Trace
output_by false true = Some Objects
output_by true true = None

-- how books are settled if these arguments follow `settle`: they are its options, in any order, each at most once, and
-- at most one says what is printed
abbrev pub settling_by : (options : List Text) → Option SettleTask
settling_by options = if are_flags settle_options options then option_map (λ printed. record {
  repeats = has_text (codes "--repeats") options;
  printed = printed;
}) (output_by (has_text (codes "--trace") options) (has_text (codes "--json") options)) else None

-- how the arguments ask to settle books, if they are the program's name, `settle` and its options
abbrev pub settling_of : (arguments : List Text) → Option SettleTask
settling_of [] = None
settling_of (program ∷ []) = None
settling_of (program ∷ name ∷ options) = if bytes_eq name (codes "settle") then settling_by options else None

abbrev pub AsksToSettle : (arguments : List Text) → SettleTask → Type 0
AsksToSettle arguments asked = settling_of arguments ≡ Some asked

abbrev pub AreSettleArguments : (arguments : List Text) → Type 0
AreSettleArguments arguments = (asked : SettleTask) × AsksToSettle arguments asked
