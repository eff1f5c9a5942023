-- What arguments ask for, by what the parser makes of them.
use Rattle.std.proofs.Common.{◌≡◌, ◌∙◌, ◌⊎◌, Bool, true, false, not, List, [], ◌∷◌, Result, Ok, Err, String, Global, refl, sym, subst, ap, inl, inr}
use Rattle.std.specs.Prelude.{IfOk}
use Rattle.std.proofs.lemmas.Bool.{false≢true}
use Rattle.std.proofs.lemmas.Result.{IfOk-weaker}
use Rattle.std.specs.List.{list_any}
use Rattle.clap.specs.Words.{App, FailsBy, HasKind, HasMatchesOf, IsAmong, Kinds, Text, fault_of, is_simple, is_simple_and_free, kind_of, subcommand_of, subcommand_rows_of}
use Rattle.clap.specs.declared.parser.matches.ArgMatches.{ArgMatches}
use Rattle.clap.specs.declared.error.Error.{Error}
use Rattle.clap.specs.declared.error.kind.ErrorKind.{ErrorKind}
use Rattle.clap.specs.declared.error.kind.ErrorKind.TheVariants as kind
use Rattle.ra_arguments.specs.declared.command_line.Task.{Task}
use Rattle.ra_arguments.specs.declared.command_line.Task.TheVariants as task
use Rattle.ra_arguments.specs.Application.{HasWords, WordList, ending_words, policy_words, program_with, ra_app}
use Rattle.ra_arguments.specs.declared.usage_fault.UsageFault.{UsageFault}
use Rattle.ra_arguments.specs.declared.usage_fault.UsageFault.TheVariants as usage
use Rattle.ra_arguments.specs.Asked.{AsksForNothing, AsksForTask, IsParsed, IsTaskFor, IsUsageFault, is_help, meaning_of, refusals}
use Rattle.ra_arguments.specs.Helping.{Helps, IsHelpText, IsShown}
use Rattle.ra_arguments.specs.Meanings.{Meaning, Meant}
use Rattle.ra_arguments.proofs.Parsing.{same_command, same_refusals, simple, simple_and_free}

-- a text of help is no task of a meaning
no_text : (meaning : Meant Meaning) (text : String Global) → IsTaskFor meaning (task.Help text) → ⊥
no_text (Ok meaning) text is = cc
no_text (Err why) text is = is

-- the parser takes the arguments, and they mean this
pub taken : (arguments : List Text) (asked : Task) → refusals arguments ≡ [] → IsTaskFor (meaning_of arguments) asked → AsksForTask arguments asked
taken arguments (task.Answer node nodes) none means = (none, means)
taken arguments (task.Sim policy choices format) none means = (none, means)
taken arguments (task.Survey asked) none means = (none, means)
taken arguments (task.Check complete form) none means = (none, means)
taken arguments (task.CheckMarks complete form) none means = (none, means)
taken arguments (task.Follow kind every complete form) none means = (none, means)
taken arguments (task.CheckAll complete) none means = (none, means)
taken arguments (task.Draw read part) none means = (none, means)
taken arguments (task.Cluster printed) none means = (none, means)
taken arguments (task.Help text) none means = absurd (no_text (meaning_of arguments) text means)

-- ---- kinds of error

pub no_help : (k : ErrorKind) → (k ≡ kind.DisplayHelp → ⊥) → (k ≡ kind.DisplayVersion → ⊥) → is_help k ≡ false
no_help kind.InvalidValue a b = refl
no_help kind.UnknownArgument a b = refl
no_help kind.InvalidSubcommand a b = refl
no_help kind.NoEquals a b = refl
no_help kind.ValueValidation a b = refl
no_help kind.TooManyValues a b = refl
no_help kind.TooFewValues a b = refl
no_help kind.WrongNumberOfValues a b = refl
no_help kind.ArgumentConflict a b = refl
no_help kind.MissingRequiredArgument a b = refl
no_help kind.MissingSubcommand a b = refl
no_help kind.DisplayHelp a b = absurd (a refl)
no_help kind.DisplayHelpOnMissingArgumentOrSubcommand a b = refl
no_help kind.DisplayVersion a b = absurd (b refl)
no_help kind.Io a b = refl
no_help kind.Format a b = refl
no_help kind.OutOfMemory a b = refl

among : (P : ErrorKind → Bool) (k : ErrorKind) (kinds : Kinds) → IsAmong k kinds → P k ≡ true → list_any P kinds ≡ true
among P k [] at is = absurd at
among P k (x ∷ kinds) (inl same) is = rw (← same, is) refl
among P k (x ∷ kinds) (inr later) is = go (P x) refl (among P k kinds later is)
  where
    go : (b : Bool) → P x ≡ b → list_any P kinds ≡ true → list_any P (x ∷ kinds) ≡ true
    go true e rest = rw e refl
    go false e rest = rw (e, rest) refl

some_kind : (k : ErrorKind) (kinds : Kinds) → IsAmong k kinds → kinds ≡ [] → ⊥
some_kind k [] at none = absurd at
some_kind k (x ∷ kinds) at none = cc

-- the parser's error, unless memory ran out
pub refused : (arguments : List Text) (error : Error) → HasKind (refusals arguments) error → (kind_of error ≡ kind.OutOfMemory → ⊥) → IsAmong (kind_of error) (refusals arguments)
refused arguments error (inl memory) not = absurd (not memory)
refused arguments error (inr among) not = among

pub help_asked : (arguments : List Text) (error : Error) → HasKind (refusals arguments) error → (kind_of error ≡ kind.OutOfMemory → ⊥) → is_help (kind_of error) ≡ true
    → list_any is_help (refusals arguments) ≡ true
help_asked arguments error has not is = among is_help (kind_of error) (refusals arguments) (refused arguments error has not) is

-- what asks for nothing for a cause asks for nothing
pub nothing_asked : (arguments : List Text) (why : UsageFault) → IsUsageFault arguments why → AsksForNothing arguments
nothing_asked arguments (usage.Meaning cause value) (none, means) = inl (none, cause, means)
nothing_asked arguments (usage.Parser error) (at, other) = go (is_help (kind_of error)) refl
  where
    go : (b : Bool) → is_help (kind_of error) ≡ b → AsksForNothing arguments
    go true e = inr (inr (some_kind (kind_of error) (refusals arguments) at, other e))
    go false e = inr (inl (among (λ k. not (is_help k)) (kind_of error) (refusals arguments) at (ap not e)))

pub help_is_no_memory : (k : ErrorKind) → is_help k ≡ true → k ≡ kind.OutOfMemory → ⊥
help_is_no_memory k help memory = false≢true (sym (ap is_help memory) ∙ help)

help_kind : (k : ErrorKind) → is_help k ≡ true → (k ≡ kind.DisplayHelp) ⊎ (k ≡ kind.DisplayVersion)
help_kind kind.InvalidValue is = absurd (false≢true is)
help_kind kind.UnknownArgument is = absurd (false≢true is)
help_kind kind.InvalidSubcommand is = absurd (false≢true is)
help_kind kind.NoEquals is = absurd (false≢true is)
help_kind kind.ValueValidation is = absurd (false≢true is)
help_kind kind.TooManyValues is = absurd (false≢true is)
help_kind kind.TooFewValues is = absurd (false≢true is)
help_kind kind.WrongNumberOfValues is = absurd (false≢true is)
help_kind kind.ArgumentConflict is = absurd (false≢true is)
help_kind kind.MissingRequiredArgument is = absurd (false≢true is)
help_kind kind.MissingSubcommand is = absurd (false≢true is)
help_kind kind.DisplayHelp is = inl refl
help_kind kind.DisplayHelpOnMissingArgumentOrSubcommand is = absurd (false≢true is)
help_kind kind.DisplayVersion is = inr refl
help_kind kind.Io is = absurd (false≢true is)
help_kind kind.Format is = absurd (false≢true is)
help_kind kind.OutOfMemory is = absurd (false≢true is)

-- a text that is shown is the help of the command that the arguments name, or the version
pub shown : (helps : Helps) (arguments : List Text) (error : Error) (text : Text) → HasKind (refusals arguments) error → is_help (kind_of error) ≡ true
    → IsShown helps arguments (kind_of error) text → IsAmong kind.DisplayVersion (refusals arguments) ⊎ IsHelpText helps arguments text
shown helps arguments error text has is shows = elim (help_kind (kind_of error) is) [
  | inl help ↦ inr (shows help)
  | inr version ↦ inl (subst (λ (k : ErrorKind). IsAmong k (refusals arguments)) version (refused arguments error has (help_is_no_memory (kind_of error) is)))
]

-- what the parser made of the arguments, by the commands that were built
pub parsed_by : (made : App) (policies endings : WordList) → HasWords policies policy_words → HasWords endings ending_words → made ≡ program_with policies endings
    → (arguments : List Text) (result : Result ArgMatches Error) → (is_simple_and_free made ≡ true → FailsBy (fault_of made arguments) result)
    → IfOk result (HasMatchesOf made arguments) → IsParsed arguments result
parsed_by made policies endings first second is arguments result kinds matches = (
  subst (λ (k : Kinds). FailsBy k result) (ap (λ (a : App). fault_of a arguments) is ∙ same_refusals policies endings first second arguments)
      (kinds (ap is_simple_and_free is ∙ simple_and_free policies endings)),
  IfOk-weaker result (HasMatchesOf made arguments) (λ m. subcommand_rows_of m ≡ subcommand_of ra_app arguments)
      (λ m has. (has (ap is_simple is ∙ simple policies endings)).1 ∙ (ap (λ (a : App). subcommand_of a arguments) is ∙ same_command policies endings first second arguments)) matches,
)
