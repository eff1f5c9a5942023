-- Which text of help arguments ask for.
use Rattle.std.specs.Prelude.{◌≡◌, ◌⊎◌, ⊤, Bool, true, false, List, [], ◌∷◌, ◌++◌, Option, Some, None, codes, if◌then◌else◌, unwrap_or, string_bytes}
use Rattle.std.specs.Option.{option_map_or}
use Rattle.std.specs.Str.{bytes_eq}
use Rattle.clap.specs.Words.{IsAmong, Text}
use Rattle.clap.specs.declared.error.kind.ErrorKind.{ErrorKind}
use Rattle.clap.specs.declared.error.kind.ErrorKind.TheVariants.{DisplayHelp, DisplayVersion}
use Rattle.ra_arguments.specs.declared.command.Command.{Command}
use Rattle.ra_arguments.specs.declared.command.Command.TheVariants.{Node, Settle, Task, Unknown}
use Rattle.ra_arguments.specs.declared.command_line.Task.{Task as AskedTask}
use Rattle.ra_arguments.specs.declared.command_line.Task.TheVariants as task
use Rattle.ra_arguments.specs.declared.command_line.command_rows.CommandKind.{CommandKind}
use Rattle.ra_arguments.specs.declared.command_line.command_rows.CommandKind.TheVariants as kind
use Rattle.ra_arguments.specs.Asked.{refusals}
use Rattle.ra_arguments.specs.OptionTable.{Label, all_labels}

-- ---- the command

-- the command with this name among those with these labels
abbrev pub called : List Label → Text → Option CommandKind
called [] name = None
called (label ∷ labels) name = if bytes_eq label.1 name then Some label.0 else called labels name

abbrev pub command_called : Text → Option CommandKind
command_called name = called all_labels name

-- the command that the argument after the program's name names
abbrev pub command_in : (arguments : List Text) → Option CommandKind
command_in [] = None
command_in (program ∷ []) = None
command_in (program ∷ name ∷ rest) = command_called name

-- ---- the whole of a help, or its summary

-- an argument asks for the summary, or for the whole, or for no help
abbrev pub summary_by : Text → Option Bool
summary_by argument = if bytes_eq argument (codes "-h") then Some true
    else (if bytes_eq argument (codes "--help") then Some false else None)

-- the first argument that asks for help asks for the summary
abbrev pub asks_summary : (arguments : List Text) → Bool
asks_summary [] = false
asks_summary (argument ∷ arguments) = unwrap_or (summary_by argument) (asks_summary arguments)

-- ---- the text

-- the help of each command, below its options, the summary of each, and the help of the program, below its commands
pub record Helps : Type 0 where
  pub answer : Text
  pub sim : Text
  pub cluster : Text
  pub check : Text
  pub draw : Text
  pub node : Text
  pub settle : Text
  pub summary : Text
  pub program : Text

-- A clause names each text by itself, since it can name a constant text and no constant that holds several.
abbrev pub helps_of : (answer sim cluster check draw node settle summary program : Text) → Helps
helps_of answer sim cluster check draw node settle summary program = record {
  answer = answer;
  sim = sim;
  cluster = cluster;
  check = check;
  draw = draw;
  node = node;
  settle = settle;
  summary = summary;
  program = program;
}

-- the whole help of a command
abbrev pub whole_help : Helps → CommandKind → Text
whole_help helps kind.Answer = helps.answer
whole_help helps kind.Sim = helps.sim
whole_help helps kind.Cluster = helps.cluster
whole_help helps kind.Check = helps.check
whole_help helps kind.Draw = helps.draw
whole_help helps kind.Node = helps.node
whole_help helps kind.Settle = helps.settle

abbrev pub help_of : Helps → (is_summary : Bool) → CommandKind → Text
help_of helps is_summary command = if is_summary then helps.summary else whole_help helps command

-- of the command that the arguments name, or otherwise of the program
abbrev pub help_below : Helps → (arguments : List Text) → Text
help_below helps arguments = option_map_or (help_of helps (asks_summary arguments)) (command_in arguments) helps.program

-- the text is the parser's, and after an empty line this help
abbrev pub IsHelpText : Helps → (arguments : List Text) → Text → Type 0
IsHelpText helps arguments text = (above : Text)
    × (text ≡ ((above ++ codes "\n") ++ help_below helps arguments) ++ codes "\n")

-- what is shown of an error of the parser of this kind
abbrev pub IsShown : Helps → (arguments : List Text) → ErrorKind → Text → Type 0
IsShown helps arguments why text = why ≡ DisplayHelp → IsHelpText helps arguments text

-- a text of help is the help of the command that the arguments name and of no other, unless it is the version
abbrev pub ShowsHelp : Helps → (arguments : List Text) → AskedTask → Type 0
ShowsHelp helps arguments (task.Help text) = IsAmong DisplayVersion (refusals arguments)
    ⊎ IsHelpText helps arguments (string_bytes text)
ShowsHelp helps arguments asked = ⊤

abbrev pub ShowsHelpOf : Helps → (arguments : List Text) → Command → Type 0
ShowsHelpOf helps arguments Node = ⊤
ShowsHelpOf helps arguments (Settle asked) = ⊤
ShowsHelpOf helps arguments (Task asked) = ShowsHelp helps arguments asked
ShowsHelpOf helps arguments (Unknown why) = ⊤
