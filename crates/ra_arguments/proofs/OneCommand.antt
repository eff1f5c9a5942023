-- Arguments ask for one command.
use Rattle.std.proofs.Common.{◌≡◌, ◌∙◌, ◌⊎◌, true, not, List, [], Some, None, Ok, Err, Bor, refl, sym, ap, inl, inr}
use Rattle.std.specs.List.{list_any}
use Rattle.std.proofs.lemmas.Bool.{false≢true}
use Rattle.clap.specs.Words.{Text}
use Rattle.ra_script.specs.declared.output_kind.OutputKind.TheVariants as prints
use Rattle.ra_arguments.specs.declared.command.Command.{Command}
use Rattle.ra_arguments.specs.declared.command.Command.TheVariants as command
use Rattle.ra_arguments.specs.declared.command_line.CommandFault.TheVariants.{Memory, Usage}
use Rattle.ra_arguments.specs.declared.command_line.PolicyName.TheVariants.{Oldest}
use Rattle.ra_arguments.specs.declared.command_line.Task.{Task}
use Rattle.ra_arguments.specs.declared.command_line.Task.TheVariants as task
use Rattle.ra_arguments.specs.Arguments.{AreSimArguments}
use Rattle.ra_arguments.specs.Asked.{AreSameCommand, Asks, AsksForHelp, AsksForNothing, AsksForTask, IsTaskFor, is_help, meaning_as, meaning_of, refusals}
use Rattle.ra_arguments.specs.Meanings.{Meaning, Meant, sim}
use Rattle.ra_arguments.proofs.Examples.{sim_alone, sim_alone_means}
use Rattle.ra_arguments.proofs.SettleArguments.{no_node_arguments, one_thing}
use Rattle.ra_arguments.proofs.Sorts.{one_sort}

module _ (arguments : List Text) where
  -- the parser takes the arguments and they mean something, or they ask for help
  abbrev Means : Task → Type 0
  Means asked = (meaning : Meaning) × (meaning_as asked ≡ Some meaning) × (refusals arguments ≡ []) × (meaning_of arguments ≡ Ok meaning)

  abbrev Helps : Task → Type 0
  Helps asked = (meaning_as asked ≡ None) × AsksForHelp arguments

  means : (asked : Task) → refusals arguments ≡ [] → IsTaskFor (meaning_of arguments) asked → Means asked
  means asked none for = go (meaning_of arguments) refl for
    where
      go : (meaning : Meant Meaning) → meaning_of arguments ≡ meaning → IsTaskFor meaning asked → Means asked
      go (Ok meaning) is same = (meaning, sym same, none, is)
      go (Err why) is same = absurd same

  of_task : (asked : Task) → AsksForTask arguments asked → Means asked ⊎ Helps asked
  of_task (task.Answer node nodes) asks = inl (means _ asks.0 asks.1)
  of_task (task.Sim policy choices format) asks = inl (means _ asks.0 asks.1)
  of_task (task.Survey survey) asks = inl (means _ asks.0 asks.1)
  of_task (task.Check complete form) asks = inl (means _ asks.0 asks.1)
  of_task (task.CheckMarks complete form) asks = inl (means _ asks.0 asks.1)
  of_task (task.Follow kind every complete form) asks = inl (means _ asks.0 asks.1)
  of_task (task.CheckAll complete) asks = inl (means _ asks.0 asks.1)
  of_task (task.Draw kind part) asks = inl (means _ asks.0 asks.1)
  of_task (task.Cluster printed) asks = inl (means _ asks.0 asks.1)
  of_task (task.Help text) asks = inr (refl, asks)

  -- what is not refused is not refused for help, nor otherwise
  not_refused : refusals arguments ≡ [] → list_any is_help (refusals arguments) ≡ true → ⊥
  not_refused none some = false≢true (sym (ap (list_any is_help) none) ∙ some)

  not_refused_otherwise : refusals arguments ≡ [] → list_any (λ k. not (is_help k)) (refusals arguments) ≡ true → ⊥
  not_refused_otherwise none some = false≢true (sym (ap (list_any (λ k. not (is_help k))) none) ∙ some)

  one_meaning : (a b : Task) → Means a ⊎ Helps a → Means b ⊎ Helps b → meaning_as a ≡ meaning_as b
  one_meaning a b (inl (m, is, none, mean)) (inl (n, is', none', mean')) =
      let both = sym mean ∙ mean' in let same : m ≡ n = cc in is ∙ ap Some same ∙ sym is'
  one_meaning a b (inl (m, is, none, mean)) (inr (is', help)) = absurd (not_refused none help.0)
  one_meaning a b (inr (is, help)) (inl (n, is', none, mean)) = absurd (not_refused none help.0)
  one_meaning a b (inr (is, help)) (inr (is', help')) = is ∙ sym is'

  pub one_task_asked : (a b : Task) → AsksForTask arguments a → AsksForTask arguments b → meaning_as a ≡ meaning_as b
  one_task_asked a b first second = one_meaning a b (of_task a first) (of_task b second)

  nothing_of : (a : Task) → Means a ⊎ Helps a → AsksForNothing arguments → ⊥
  nothing_of a (inl (m, is, none, mean)) (inl (none', why, mean')) = let clash = sym mean ∙ mean' in cc
  nothing_of a (inl (m, is, none, mean)) (inr (inl other)) = not_refused_otherwise none other
  nothing_of a (inl (m, is, none, mean)) (inr (inr (some, no_help))) = some none
  nothing_of a (inr (is, help)) (inl (none, why, mean)) = not_refused none help.0
  nothing_of a (inr (is, help)) (inr (inl other)) = false≢true (sym (one_sort arguments help.0) ∙ other)
  nothing_of a (inr (is, help)) (inr (inr (some, no_help))) = no_help help.1

  -- what asks for a task does not ask for nothing
  pub something : (a : Task) → AsksForTask arguments a → AsksForNothing arguments → ⊥
  something a asks nothing = nothing_of a (of_task a asks) nothing

  pub one_command : (a b : Command) → Asks arguments a → Asks arguments b → AreSameCommand a b
  one_command (command.Unknown Memory) b first second = tt
  one_command command.Node (command.Unknown Memory) first second = tt
  one_command (command.Settle a) (command.Unknown Memory) first second = tt
  one_command (command.Task a) (command.Unknown Memory) first second = tt
  one_command (command.Unknown Usage) (command.Unknown Memory) first second = tt
  one_command command.Node command.Node first second = tt
  one_command command.Node (command.Settle b) first second = absurd (no_node_arguments arguments (b, second) first)
  one_command command.Node (command.Task b) first second = absurd (second.0.no_node first)
  one_command command.Node (command.Unknown Usage) first second = absurd (second.0.no_node first)
  one_command (command.Settle a) command.Node first second = absurd (no_node_arguments arguments (a, first) second)
  one_command (command.Settle a) (command.Settle b) first second = one_thing arguments a b first second
  one_command (command.Settle a) (command.Task b) first second = absurd (second.0.no_books (a, first))
  one_command (command.Settle a) (command.Unknown Usage) first second = absurd (second.0.no_books (a, first))
  one_command (command.Task a) command.Node first second = absurd (first.0.no_node second)
  one_command (command.Task a) (command.Settle b) first second = absurd (first.0.no_books (b, second))
  one_command (command.Task a) (command.Task b) first second = one_task_asked a b first.1 second.1
  one_command (command.Task a) (command.Unknown Usage) first second = absurd (something a first.1 second.2)
  one_command (command.Unknown Usage) command.Node first second = absurd (first.0.no_node second)
  one_command (command.Unknown Usage) (command.Settle b) first second = absurd (first.0.no_books (b, second))
  one_command (command.Unknown Usage) (command.Task b) first second = absurd (something b second.1 first.2)
  one_command (command.Unknown Usage) (command.Unknown Usage) first second = tt

-- the program's name and `sim` ask for one run by the policy oldest
pub sim_alone_asks : (arguments : List Text) (choices : Bor Text) → choices.now ≡ [] → AreSimArguments arguments
    → (refusals arguments ≡ []) × IsTaskFor (meaning_of arguments) (task.Sim Oldest choices prints.Lines)
sim_alone_asks arguments choices empty (name, is) =
    (rw is (sim_alone name), rw (is, sim_alone_means name) (ap (λ (text : Text). Some (sim Oldest text prints.Lines)) (sym empty)))
