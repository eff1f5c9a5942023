-- Which words of a command line the parser reads, and which name files.
use Rattle.std.specs.Prelude.{◌≡◌, ◌==◌, ◌&&◌, ◌||◌, ◌++◌, Bool, true, false, List, [], ◌∷◌, Option, Some, None, codes, fold, if◌then◌else◌, map, string_bytes}
use Rattle.std.specs.Str.{bytes_eq}
use Rattle.clap.specs.Words.{Rule, Text}
use Rattle.clap.specs.declared.builder.action.ArgAction.{ArgAction}
use Rattle.clap.specs.declared.builder.action.ArgAction.TheVariants as action
use Rattle.ra_arguments.specs.declared.command_line.command_rows.CommandKind.{CommandKind}
use Rattle.ra_arguments.specs.declared.command_line.command_rows.CommandKind.TheVariants as kind
use Rattle.ra_arguments.specs.declared.file_words.CommandWords.{CommandWords}
use Rattle.ra_arguments.specs.declared.file_words.Place.{Place}
use Rattle.ra_arguments.specs.declared.file_words.Place.TheVariants.{Program, Command, Options, Files}
use Rattle.ra_arguments.specs.declared.file_words.Sorting.{Sorting}
use Rattle.ra_arguments.specs.Application.{answer_options, check_options, cluster_options, draw_options, ending_words, node_options, policy_words, settle_options, sim_options, word_list}
use Rattle.ra_arguments.specs.Helping.{command_called}

-- ---- single words

-- a hyphen (45) and more
abbrev pub is_option : Text → Bool
is_option [] = false
is_option (a ∷ []) = false
is_option (a ∷ b ∷ rest) = a == 45

abbrev pub asks_for_quiet : Text → Bool
asks_for_quiet word = bytes_eq word (codes "-q") || bytes_eq word (codes "--quiet")

abbrev pub takes_value : Option ArgAction → Bool
takes_value (Some action.Set) = true
takes_value _ = false

-- the word is this option, and the next word is its value
abbrev pub takes_next : (word : Text) → Rule → Bool
takes_next word rule = takes_value rule.action && bytes_eq word (codes "--" ++ rule.id)

-- the word is one of these options, and the next word is its value
abbrev pub is_taking : List Rule → (word : Text) → Bool
is_taking [] word = false
is_taking (rule ∷ rules) word = takes_next word rule || is_taking rules word

-- the options of a command; that of an unknown one are none
abbrev pub options_after : Option CommandKind → List Rule
options_after None = []
options_after (Some kind.Answer) = answer_options
options_after (Some kind.Sim) = sim_options (word_list policy_words) (word_list ending_words)
options_after (Some kind.Cluster) = cluster_options
options_after (Some kind.Check) = check_options
options_after (Some kind.Draw) = draw_options
options_after (Some kind.Node) = node_options
options_after (Some kind.Settle) = settle_options

-- ---- all of them, one after the other

-- the words so far: what the parser reads, the files, whether notes and help are asked for, and the place of the next
-- word
pub record Sorted : Type 0 where
  pub arguments : List Text
  pub files : List Text
  pub is_quiet : Bool
  pub helps : Bool
  pub place : Place

abbrev pub nothing_sorted : Sorted
nothing_sorted = record { arguments = []; files = []; is_quiet = false; helps = false; place = Program }

abbrev pub with_argument : (word : Text) → Place → Sorted → Sorted
with_argument word place s = record s { arguments = s.arguments ++ word ∷ []; place = place }

abbrev pub with_file : (word : Text) → Sorted → Sorted
with_file word s = record s { files = s.files ++ word ∷ [] }

-- the same place, where no option takes the next word
abbrev pub settled : Place → Place
settled (Options kind waits) = Options kind false
settled place = place

-- before the command's name: an option, `help`, or the name
abbrev pub before_options : (word : Text) → Sorted → Sorted
before_options word s =
    if is_option word then with_argument word Command s
    else (if bytes_eq word (codes "help") then record s { helps = true }
    else with_argument word (Options (command_called word) false) s)

-- after it: an option, the value of one, or the name of a file
abbrev pub among_options : Option CommandKind → (waits : Bool) → (word : Text) → Sorted → Sorted
among_options kind waits word s =
    if is_option word then with_argument word (Options kind (is_taking (options_after kind) word)) s
    else (if waits then with_argument word (Options kind false) s
    else with_file word s)

-- `--` and `-q` mean the same before and after the command's name
abbrev pub unless_for_all : (word : Text) → (other : Sorted) → Sorted → Sorted
unless_for_all word other s =
    if bytes_eq word (codes "--") then record s { place = Files }
    else (if asks_for_quiet word then record s { is_quiet = true; place = settled s.place }
    else other)

abbrev pub with_word_at : Place → (word : Text) → Sorted → Sorted
with_word_at Program word s = with_argument word Command s
with_word_at Command word s = unless_for_all word (before_options word s) s
with_word_at (Options kind waits) word s = unless_for_all word (among_options kind waits word s) s
with_word_at Files word s = with_file word s

abbrev pub with_word : Sorted → (word : Text) → Sorted
with_word s word = with_word_at s.place word s

abbrev pub sorted : (words : List Text) → Sorted
sorted words = fold with_word nothing_sorted words

-- ---- what comes of it

-- what the parser reads
abbrev pub arguments_of : Sorted → List Text
arguments_of s = if s.helps then s.arguments ++ codes "--help" ∷ [] else s.arguments

abbrev pub sorted_in : Sorting → Sorted
sorted_in s = record {
  arguments = map string_bytes s.arguments.items;
  files = map (λ word. word.now) s.files.items;
  is_quiet = s.is_quiet;
  helps = s.helps;
  place = s.place;
}

-- these are the words, sorted
pub record AreSorted (words : List Text) (found : CommandWords) : Type 0 where
  pub arguments : map string_bytes found.arguments.items ≡ arguments_of (sorted words)
  pub files : map (λ word. word.now) found.files.items ≡ (sorted words).files
  pub is_quiet : found.is_quiet ≡ (sorted words).is_quiet
