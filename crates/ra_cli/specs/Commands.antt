-- What a command does, and what the program does with the arguments that ask for it.
use Rattle.std.specs.Prelude.{◌≡◌, ◌≢◌, ⊤, ℕ, List, Option, None, string_bytes}
use Rattle.ra_stamp.specs.Member.{IsMember}
use Rattle.ra_schedule.specs.ChoicesText.{choices_of}
use Rattle.ra_arguments.specs.Asked.{Asks}
use Rattle.ra_arguments.specs.Helping.{Helps, ShowsHelpOf}
use Rattle.ra_arguments.specs.declared.cluster_output.ClusterOutput.{ClusterOutput}
use Rattle.ra_arguments.specs.declared.command.Command.{Command}
use Rattle.ra_arguments.specs.declared.command.Command.TheVariants.{Node, Settle, Task, Unknown}
use Rattle.ra_arguments.specs.declared.command_line.Task.TheVariants as task
use Rattle.ra_trace.specs.declared.checker.trace_watcher.TraceSoFar.{TraceSoFar}
use Rattle.ra_trace.specs.declared.mark_log.marks_watcher.MarksSoFar.{MarksSoFar}
use Rattle.ra_cli.specs.Checks.{TellsOfKind}
use Rattle.ra_cli.specs.NodeRun.{ServesNode}
use Rattle.ra_cli.specs.Refusals.{command_word, refused_line}
use Rattle.ra_cli.specs.SettleRun.{ServesSettle}
use Rattle.ra_cli.specs.Statuses.{Writes}
use Rattle.ra_cli.specs.Tasks.{Does}

-- What a command did that ended with this status. `old` and `new` are what is left in the reader before and after it,
-- and `before` and `after` what the writer contains, if they tell. A text of help is printed as it is. For an
-- unknown command, the line of its refusal is.
abbrev pub DoesCommand : Command → (old new before after : Option (List ℕ)) → (status : ℕ) → Type 0
DoesCommand Node old new before after status = ServesNode old new before after status
DoesCommand (Settle asked) old new before after status = ServesSettle asked old new before after status
DoesCommand (Task (task.Help text)) old new before after status = Writes (string_bytes text) 0 before after status
DoesCommand (Task asked) old new before after status = Does asked old new before after status
DoesCommand (Unknown fault) old new before after status =
    Writes (refused_line (command_word fault)) 2 before after status

-- The command reads nothing: a text of help, or an unknown command. Nor does `answer` if the node is not one of the
-- nodes, nor `sim` if the choices are no list of choices.
abbrev pub ReadsNothing : Command → Type 0
ReadsNothing Node = ⊥
ReadsNothing (Settle asked) = ⊥
ReadsNothing (Task (task.Help text)) = ⊤
ReadsNothing (Task (task.Answer node nodes)) = IsMember node nodes → ⊥
ReadsNothing (Task (task.Sim policy choices format)) = choices_of choices.now ≡ None
ReadsNothing (Task asked) = ⊥
ReadsNothing (Unknown fault) = ⊤

-- What the observer of a command is told of a text that is followed, by the status of the command. Of another command
-- nothing is said.
abbrev pub TellsObserver : Command → (old : Option (List ℕ))
    → (trace_before trace_after : Option (List TraceSoFar)) → (marks_before marks_after : Option (List MarksSoFar))
    → (status : ℕ) → Type 0
TellsObserver (Task (task.Follow kind every complete form)) old trace_before trace_after marks_before marks_after status =
    TellsOfKind kind every old trace_before trace_after marks_before marks_after status
TellsObserver (Task (task.CheckAll complete)) old trace_before trace_after marks_before marks_after status =
    marks_after ≡ marks_before
TellsObserver asked old trace_before trace_after marks_before marks_after status = ⊤

-- no thread is started for the command: it is not `cluster`
abbrev pub NeedsNoThreads : Command → Type 0
NeedsNoThreads asked = (printed : ClusterOutput) → asked ≢ Task (task.Cluster printed)

-- What the program did when it was run with these arguments and ended with this status: what they ask for. If that is
-- help, it is the help of the command that they name. `Untouched` says that nothing was read.
pub record Serves (helps : Helps) (arguments : List (List ℕ)) (old new before after : Option (List ℕ))
    (Untouched : Type 0) (status : ℕ) : Type 0 where
  pub asked : Command
  pub asks : Asks arguments asked
  pub help : ShowsHelpOf helps arguments asked
  pub does : DoesCommand asked old new before after status
  pub unread : ReadsNothing asked → Untouched
