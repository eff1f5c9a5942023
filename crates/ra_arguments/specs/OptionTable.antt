-- What the rows of the tables of commands and options are to the parser.
use Rattle.std.specs.Prelude.{◌≡◌, List, [], ◌∷◌, map, codes, Some}
use Rattle.clap.specs.Words.{App, Rule, Shape, Text, new_rule}
use Rattle.ra_arguments.specs.declared.command_line.command_rows.CommandKind.{CommandKind}
use Rattle.ra_arguments.specs.declared.command_line.command_rows.CommandKind.TheVariants.{Answer, Sim, Cluster, Check, Draw, Node, Settle}
use Rattle.ra_arguments.specs.declared.command_line.command_rows.CommandRow.{CommandRow}
use Rattle.ra_arguments.specs.declared.command_line.option_rows.OptionRow.{OptionRow}
use Rattle.clap.specs.Walk.{is_empty}
use Rattle.ra_arguments.specs.Application.{HasWords, WordList, answer_options, check_options, cluster_options, command, draw_options, ending_words, node_options, policy_words, program, settle_options, sim_options}

abbrev pub rule_of_row : OptionRow → Rule
rule_of_row row = record (new_rule row.name.now) {
  long = Some row.name.now;
  short = row.short;
  action = Some row.action;
  parser = Some row.parser;
  defaults = map (λ text. text.now) row.defaults.now;
  required = row.is_required;
}

-- these are the options of a command
abbrev pub AreOfCommand : CommandKind → List Rule → Type 0
AreOfCommand Answer options = options ≡ answer_options
AreOfCommand Sim options = (policies endings : WordList) × HasWords policies policy_words
    × HasWords endings ending_words
    × (options ≡ sim_options policies endings)
AreOfCommand Cluster options = options ≡ cluster_options
AreOfCommand Check options = options ≡ check_options
AreOfCommand Draw options = options ≡ draw_options
AreOfCommand Node options = options ≡ node_options
AreOfCommand Settle options = options ≡ settle_options

-- the parser's command has the name and the options of the row
abbrev pub IsOfRow : CommandRow → App → Type 0
IsOfRow row made = (options : List Rule) × AreOfCommand row.kind options
    × (made ≡ record { top = command row.name.now options; subs = [] })

-- the kind and the name of a command
abbrev pub Label : Type 0
Label = CommandKind × Text

abbrev pub label_of_row : CommandRow → Label
label_of_row row = (row.kind, row.name.now)

-- the kinds and names of all commands, in the order of help
abbrev pub all_labels : List Label
all_labels = (Answer, codes "answer") ∷ (Sim, codes "sim") ∷ (Cluster, codes "cluster") ∷ (Check, codes "check")
    ∷ (Draw, codes "draw") ∷ (Node, codes "node")
    ∷ (Settle, codes "settle") ∷ []

-- these are commands with these labels, in their order
abbrev pub AreCommandsOf : List Label → List Shape → Type 0
AreCommandsOf [] commands = commands ≡ []
AreCommandsOf ((kind, name) ∷ labels) commands = (options : List Rule) × AreOfCommand kind options × (rest : List Shape)
    × (commands ≡ command name options ∷ rest) × AreCommandsOf labels rest

-- the program with these commands added
abbrev pub program_of : List Shape → App
program_of commands = record { top = record program { is_leaf = is_empty commands }; subs = commands }
