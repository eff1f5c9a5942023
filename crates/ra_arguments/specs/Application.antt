-- The commands and options of `ra`, as the parser knows them.
use Rattle.std.specs.Prelude.{◌≡◌, pos, true, false, List, [], ◌∷◌, map, codes, Some}
use Rattle.std.specs.Borrow.{Bor}
use Rattle.clap.specs.Words.{App, Rule, Shape, Text, new_rule}
use Rattle.clap.specs.Simple.{new_shape}
use Rattle.clap.specs.declared.builder.value_parser.ValueParser.{ValueParser}
use Rattle.clap.specs.declared.builder.value_parser.ValueParser.TheVariants as takes
use Rattle.clap.specs.declared.builder.action.ArgAction.TheVariants as action

-- ---- options

-- an option that takes nothing
abbrev pub flag : Text → Rule
flag name = record (new_rule name) {
  long = Some name;
  action = Some action.SetTrue;
  parser = Some takes.Bool;
}

-- an option that takes a value
abbrev pub option : Text → ValueParser → Rule
option name values = record (new_rule name) {
  long = Some name;
  action = Some action.Set;
  parser = Some values;
}

-- numbers of 16 bits, and of 64
abbrev pub short_numbers : ValueParser
short_numbers = takes.Signed (pos 0) (pos 65535)

abbrev pub long_numbers : ValueParser
long_numbers = takes.Unsigned 0 18446744073709551615

abbrev pub with_default : Rule → Text → Rule
with_default rule text = record rule { defaults = text ∷ [] }

abbrev pub required : Rule → Rule
required rule = record rule { required = true }

-- `--quiet`, and `-q` (113)
abbrev pub quiet_option : Rule
quiet_option = record (flag (codes "quiet")) { short = Some 113 }

-- `--help`, and `-h` (104)
abbrev pub help_option : Rule
help_option = record (flag (codes "help")) { short = Some 104; action = Some action.Help }

-- ---- words that an option takes

-- a reference to references to texts, as the parser has the words that an option takes
abbrev pub WordList : Type 0
WordList = Bor (List (Bor Text))

-- the list has these words
abbrev pub HasWords : WordList → List Text → Type 0
HasWords words texts = map (λ word. word.now) words.now ≡ texts

-- a list of these words; their places in memory do not matter to the parser
abbrev pub word_list : List Text → WordList
word_list texts = record { ref_ptr = (0, 0); now = map (λ text. record { ref_ptr = (0, 0); now = text }) texts }

abbrev pub policy_words : List Text
policy_words = codes "oldest" ∷ codes "newest" ∷ codes "seeded" ∷ codes "faulty" ∷ codes "listed" ∷ []

abbrev pub ending_words : List Text
ending_words = codes "finished" ∷ codes "stuck" ∷ []

-- ---- commands

abbrev pub answer_options : List Rule
answer_options = required (option (codes "node") short_numbers) ∷ required (option (codes "nodes") short_numbers)
    ∷ quiet_option ∷ help_option ∷ []

-- the options of `sim`, with the words for policies and for ends of runs
abbrev pub sim_options : (policies endings : WordList) → List Rule
sim_options policies endings =
    with_default (option (codes "policy") (takes.Names policies)) (codes "oldest")
    ∷ with_default (option (codes "seed") long_numbers) (codes "0")
    ∷ with_default (option (codes "lose") short_numbers) (codes "0")
    ∷ with_default (option (codes "repeat") short_numbers) (codes "0")
    ∷ with_default (option (codes "choices") takes.String) []
    ∷ option (codes "seeds") takes.String
    ∷ option (codes "find") (takes.Names endings)
    ∷ flag (codes "trace") ∷ flag (codes "sends")
    ∷ flag (codes "as-choices") ∷ flag (codes "shrink") ∷ flag (codes "state") ∷ flag (codes "json") ∷ quiet_option ∷ help_option ∷ []

abbrev pub cluster_options : List Rule
cluster_options = flag (codes "trace") ∷ flag (codes "books") ∷ quiet_option ∷ help_option ∷ []

abbrev pub check_options : List Rule
check_options =
    flag (codes "marks") ∷ flag (codes "all") ∷ flag (codes "complete") ∷ flag (codes "follow")
    ∷ with_default (option (codes "every") long_numbers) (codes "0")
    ∷ flag (codes "json")
    ∷ quiet_option ∷ help_option ∷ []

-- the last line of a drawing is by default the last of any input
abbrev pub draw_options : List Rule
draw_options =
    flag (codes "marks")
    ∷ with_default (option (codes "from") long_numbers) (codes "1")
    ∷ with_default (option (codes "to") long_numbers) (codes "18446744073709551615")
    ∷ quiet_option ∷ help_option ∷ []

abbrev pub node_options : List Rule
node_options = quiet_option ∷ help_option ∷ []

abbrev pub settle_options : List Rule
settle_options = flag (codes "repeats") ∷ flag (codes "trace") ∷ flag (codes "json") ∷ quiet_option ∷ help_option ∷ []

-- a command with these options; its help is one of them
abbrev pub command : Text → List Rule → Shape
command name options = record (new_shape name) { rules = options; disable_help_flag = true }

-- the program itself, which wants a command, has `--help` and `--version`, and no command `help`
abbrev pub program : Shape
program = record (new_shape (codes "ra")) {
  is_leaf = false;
  has_version = true;
  disable_help_subcommand = true;
  subcommand_required = true;
}

abbrev pub program_with : (policies endings : WordList) → App
program_with policies endings = record {
  top = program;
  subs = command (codes "answer") answer_options
      ∷ command (codes "sim") (sim_options policies endings)
      ∷ command (codes "cluster") cluster_options
      ∷ command (codes "check") check_options
      ∷ command (codes "draw") draw_options
      ∷ command (codes "node") node_options
      ∷ command (codes "settle") settle_options ∷ [];
}

-- the program with its commands and their options
abbrev pub ra_app : App
ra_app = program_with (word_list policy_words) (word_list ending_words)
