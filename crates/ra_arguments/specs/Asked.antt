-- What arguments ask for.
use Rattle.std.specs.Prelude.{◌≡◌, ◌⊎◌, ⊤, ℕ, Bool, true, false, not, List, [], Any, Option, Some, None, IfOk, Result, Ok, Err, MatchResult}
use Rattle.std.specs.List.{list_any}
use Rattle.clap.specs.Words.{FailsBy, IsAmong, Kinds, Row, Text, fault_of, kind_of, subcommand_of, subcommand_rows_of}
use Rattle.clap.specs.declared.error.Error.{Error}
use Rattle.clap.specs.declared.error.kind.ErrorKind.{ErrorKind}
use Rattle.clap.specs.declared.error.kind.ErrorKind.TheVariants.{DisplayHelp, DisplayVersion}
use Rattle.clap.specs.declared.parser.matches.ArgMatches.{ArgMatches}
use Rattle.ra_arguments.specs.declared.command.Command.{Command}
use Rattle.ra_arguments.specs.declared.command.Command.TheVariants.{Node, Settle, Task, Unknown}
use Rattle.ra_arguments.specs.declared.command_line.CommandFault.{CommandFault}
use Rattle.ra_arguments.specs.declared.command_line.CommandFault.TheVariants.{Memory, Usage}
use Rattle.ra_arguments.specs.declared.command_line.Task.{Task as AskedTask}
use Rattle.ra_arguments.specs.declared.command_line.Task.TheVariants as task
use Rattle.ra_arguments.specs.declared.command_line.input_kind.InputKind.TheVariants as reads
use Rattle.ra_arguments.specs.declared.usage_fault.ArgumentsFault.{ArgumentsFault}
use Rattle.ra_arguments.specs.declared.usage_fault.ArgumentsFault.TheVariants as fault
use Rattle.ra_arguments.specs.declared.usage_fault.UsageCause.{UsageCause}
use Rattle.ra_arguments.specs.declared.usage_fault.UsageCause.TheVariants.{NoCommand}
use Rattle.ra_arguments.specs.declared.usage_fault.UsageFault.{UsageFault}
use Rattle.ra_arguments.specs.declared.usage_fault.UsageFault.TheVariants as usage
use Rattle.ra_arguments.specs.Application.{ra_app}
use Rattle.ra_arguments.specs.Arguments.{AreNodeArguments, AreSimArguments, IsHelpArgument}
use Rattle.ra_arguments.specs.Meanings.{Meaning, Meant, answer, check, check_all, cluster, draw, follow, meaning_in, sim, survey}
use Rattle.ra_arguments.specs.SettleArguments.{AreSettleArguments, AsksToSettle}

-- ---- what the parser makes of the arguments

-- the kinds of error: the parser gives one of them, and takes the arguments if there is no kind
abbrev pub refusals : (arguments : List Text) → Kinds
refusals arguments = fault_of ra_app arguments

-- what a command means, with the values of its options
abbrev pub meaning_given : Option (Text × List Row) → Meant Meaning
meaning_given None = Err NoCommand
meaning_given (Some (name, rows)) = meaning_in name rows

-- what the arguments mean, if the parser takes them
abbrev pub meaning_of : (arguments : List Text) → Meant Meaning
meaning_of arguments = meaning_given (subcommand_of ra_app arguments)

abbrev pub is_help : ErrorKind → Bool
is_help DisplayHelp = true
is_help DisplayVersion = true
is_help _ = false

-- the parser found these commands and values, or refused the arguments for one of the causes, or memory ran out
abbrev pub IsParsed : (arguments : List Text) → Result ArgMatches Error → Type 0
IsParsed arguments parsed = FailsBy (refusals arguments) parsed
    × IfOk parsed (λ matches. subcommand_rows_of matches ≡ subcommand_of ra_app arguments)

-- ---- what they ask for

-- the parser stops for a text of help or the version, and one of the arguments is an option that asks for it
abbrev pub AsksForHelp : (arguments : List Text) → Type 0
AsksForHelp arguments = (list_any is_help (refusals arguments) ≡ true) × Any IsHelpArgument arguments

-- what a task means; a text of help has no meaning
abbrev pub meaning_as : AskedTask → Option Meaning
meaning_as (task.Answer node nodes) = Some (answer node nodes)
meaning_as (task.Sim policy choices format) = Some (sim policy choices.now format)
meaning_as (task.Survey asked) = Some (survey asked)
meaning_as (task.Check complete form) = Some (check reads.Trace complete form)
meaning_as (task.CheckMarks complete form) = Some (check reads.Marks complete form)
meaning_as (task.Follow kind every complete form) = Some (follow kind every complete form)
meaning_as (task.CheckAll complete) = Some (check_all complete)
meaning_as (task.Draw kind part) = Some (draw kind part)
meaning_as (task.Cluster printed) = Some (cluster printed)
meaning_as (task.Help text) = None

-- the task is what a command means
abbrev pub IsTaskFor : Meant Meaning → AskedTask → Type 0
IsTaskFor (Ok meaning) asked = Some meaning ≡ meaning_as asked
IsTaskFor (Err why) asked = ⊥

-- the task is what a command means; it is missing only if the command means nothing, for this cause
abbrev pub IsTaken : Meant Meaning → Result AskedTask UsageCause → Type 0
IsTaken meaning found = MatchResult found (IsTaskFor meaning) (λ why. meaning ≡ Err why)

-- The parser takes the arguments, and they mean this task; or they ask for a text of help, which is the parser's.
abbrev pub AsksForTask : (arguments : List Text) → AskedTask → Type 0
AsksForTask arguments (task.Help text) = AsksForHelp arguments
AsksForTask arguments asked = (refusals arguments ≡ []) × IsTaskFor (meaning_of arguments) asked

-- The arguments ask for nothing: the parser takes them, but they mean nothing; or it refuses them, and not for a text
-- of help; or it refuses them, and no argument is an option that asks for help.
abbrev pub AsksForNothing : (arguments : List Text) → Type 0
AsksForNothing arguments = ((refusals arguments ≡ []) × (why : UsageCause) × (meaning_of arguments ≡ Err why))
    ⊎ (list_any (λ kind. not (is_help kind)) (refusals arguments) ≡ true)
    ⊎ ((refusals arguments ≡ [] → ⊥) × (Any IsHelpArgument arguments → ⊥))

-- Why they ask for nothing: the parser refuses them with an error of one of the kinds, unless that is a text of help
-- that an argument asks for; or it takes them, and this is the first cause why they mean nothing.
abbrev pub IsUsageFault : (arguments : List Text) → UsageFault → Type 0
IsUsageFault arguments (usage.Parser error) = IsAmong (kind_of error) (refusals arguments)
    × (is_help (kind_of error) ≡ true → Any IsHelpArgument arguments → ⊥)
IsUsageFault arguments (usage.Meaning why value) = (refusals arguments ≡ []) × (meaning_of arguments ≡ Err why)

-- the parser's error is why they ask for nothing, or memory ran out
abbrev pub IsRefusedBy : (arguments : List Text) → Error → CommandFault → Type 0
IsRefusedBy arguments error Usage = IsUsageFault arguments (usage.Parser error)
IsRefusedBy arguments error Memory = ⊤

-- why there is no task: this cause, or memory ran out
abbrev pub IsArgumentsFault : (arguments : List Text) → ArgumentsFault → Type 0
IsArgumentsFault arguments (fault.Usage why) = IsUsageFault arguments why
IsArgumentsFault arguments fault.Memory = ⊤

-- nothing is asked for, or memory ran out
abbrev pub IsFaultOf : (arguments : List Text) → CommandFault → Type 0
IsFaultOf arguments Usage = AsksForNothing arguments
IsFaultOf arguments Memory = ⊤

-- they ask neither for `ra node` nor for `ra settle`
pub record AreOtherArguments (arguments : List Text) : Type 0 where
  pub no_node : AreNodeArguments arguments → ⊥
  pub no_books : AreSettleArguments arguments → ⊥

-- The arguments ask for this command. (That they ask for no other is the law `arguments_ask_for_one_command`.) Of
-- arguments that ask for `node`, for `settle`, or for `sim` with no option, it is never said that memory ran out.
abbrev pub Asks : (arguments : List (List ℕ)) → Command → Type 0
Asks arguments Node = AreNodeArguments arguments
Asks arguments (Settle asked) = AsksToSettle arguments asked
Asks arguments (Task asked) = AreOtherArguments arguments × AsksForTask arguments asked
Asks arguments (Unknown fault) = AreOtherArguments arguments × (AreSimArguments arguments → ⊥)
    × IsFaultOf arguments fault

-- ---- one command

-- The two are the same command, wherever the text of choices lies, and whatever a text of help says; or one says that
-- memory ran out.
abbrev pub AreSameCommand : Command → Command → Type 0
AreSameCommand (Unknown Memory) b = ⊤
AreSameCommand a (Unknown Memory) = ⊤
AreSameCommand Node Node = ⊤
AreSameCommand (Settle a) (Settle b) = a ≡ b
AreSameCommand (Task a) (Task b) = meaning_as a ≡ meaning_as b
AreSameCommand (Unknown Usage) (Unknown Usage) = ⊤
AreSameCommand a b = ⊥

-- ---- the command, or why it is missing

-- the cause that is kept with a command tells why nothing is asked for; if something is asked for, none is kept
abbrev pub IsCauseWith : (arguments : List Text) → Command → Option UsageFault → Type 0
IsCauseWith arguments (Unknown Usage) None = ⊥
IsCauseWith arguments (Unknown Usage) (Some why) = IsUsageFault arguments why
IsCauseWith arguments asked why = why ≡ None
