-- What `ra` prints if it does not do what it is asked: the word of each refusal, after `refused`, as one line.
use Rattle.std.specs.Prelude.{◌≡◌, ℕ, List, ◌++◌, codes}
use Rattle.ra_frame.specs.Words as frame
use Rattle.ra_script.specs.declared.error.ScriptError.{ScriptError}
use Rattle.ra_script.specs.declared.error.ScriptError.TheVariants as script
use Rattle.ra_schedule.specs.declared.error.DriveError.{DriveError}
use Rattle.ra_schedule.specs.declared.error.DriveError.TheVariants as drive
use Rattle.ra_cluster.specs.declared.cluster_run.ClusterError.{ClusterError}
use Rattle.ra_cluster.specs.declared.cluster_run.ClusterError.TheVariants as cluster
use Rattle.ra_arguments.specs.declared.command_line.CommandFault.{CommandFault}
use Rattle.ra_arguments.specs.declared.command_line.CommandFault.TheVariants as command
use Rattle.ra_cli.specs.declared.error.AnswerError.{AnswerError}
use Rattle.ra_cli.specs.declared.error.AnswerError.TheVariants as answer
use Rattle.ra_schedule.specs.declared.error.ChoicesError.{ChoicesError}
use Rattle.ra_schedule.specs.declared.error.ChoicesError.TheVariants as choices
use Rattle.ra_script.specs.declared.error.PerformError.{PerformError}
use Rattle.ra_script.specs.declared.error.PerformError.TheVariants as perform
use Rattle.ra_trace.specs.declared.error.TraceError.{TraceError}
use Rattle.ra_trace.specs.declared.error.TraceError.TheVariants as trace
use Rattle.ra_draw.specs.declared.error.DrawError.{DrawError}
use Rattle.ra_draw.specs.declared.error.DrawError.TheVariants as draw
use Rattle.ra_cli.specs.declared.error.RunScriptError.{RunScriptError}
use Rattle.ra_cli.specs.declared.error.RunScriptError.TheVariants as run
use Rattle.ra_cli.specs.declared.error.SettleFault.{SettleFault}
use Rattle.ra_cli.specs.declared.error.SettleFault.TheVariants as settle
use Rattle.ra_book_text.specs.declared.error.BookFault.{BookFault}
use Rattle.ra_book_text.specs.declared.error.BookFault.TheVariants as book
use Rattle.ra_cli.specs.declared.refusal_lines.CommandRefusal.{CommandRefusal}
use Rattle.ra_cli.specs.declared.refusal_lines.CommandRefusal.TheVariants.{Command, Answer, Choices, Perform, Check, Draw, Cluster, Survey, Settle, Node}

-- the word for what is wrong with a script
abbrev pub script_word : ScriptError → List ℕ
script_word script.Toml = codes "Toml"
script_word script.Shape = codes "Shape"
script_word script.Nodes = codes "Nodes"
script_word script.Clients = codes "Clients"
script_word script.Op = codes "Op"
script_word script.NotHeld = codes "NotHeld"
script_word script.AlreadyHeld = codes "AlreadyHeld"
script_word script.Limit = codes "Limit"
script_word script.Memory = codes "Memory"

-- the word for why a policy could not go on
abbrev pub drive_word : DriveError → List ℕ
drive_word drive.TurnLimit = codes "TurnLimit"
drive_word drive.BadPlace = codes "BadPlace"
drive_word drive.NotEnabled = codes "NotEnabled"
drive_word drive.Memory = codes "Memory"

-- the word for why threads did not bring a script to its end
abbrev pub cluster_word : ClusterError → List ℕ
cluster_word cluster.OutOfOrder = codes "OutOfOrder"
cluster_word cluster.Unreleased = codes "Unreleased"
cluster_word (cluster.Fault stop) = codes "Fault"
cluster_word cluster.Settle = codes "Settle"
cluster_word cluster.PlanUnmet = codes "PlanUnmet"
cluster_word cluster.Lost = codes "Lost"
cluster_word cluster.UnderWay = codes "UnderWay"
cluster_word cluster.Memory = codes "Memory"

-- the word for why a command line was not taken
abbrev pub command_word : CommandFault → List ℕ
command_word command.Usage = codes "Usage"
command_word command.Memory = codes "Memory"

-- the word for a refusal of `ra answer`
abbrev pub answer_word : AnswerError → List ℕ
answer_word answer.BadCount = codes "BadCount"
answer_word answer.BadNode = codes "BadNode"
answer_word answer.Read = codes "Read"
answer_word answer.Line = codes "Line"
answer_word answer.Hex = codes "Hex"
answer_word (answer.Frame why) = frame.word_of why
answer_word answer.WrongNode = codes "WrongNode"
answer_word answer.Stranger = codes "Stranger"
answer_word answer.ClockFull = codes "ClockFull"
answer_word answer.Memory = codes "Memory"
answer_word answer.Write = codes "Write"

-- the word for what is wrong with the text of choices
abbrev pub choices_word : ChoicesError → List ℕ
choices_word choices.Choice = codes "Choice"
choices_word choices.Memory = codes "Memory"

-- the word for a refusal of `ra sim` under one policy
abbrev pub perform_word : PerformError → List ℕ
perform_word perform.Read = codes "Read"
perform_word (perform.Script why) = script_word why
perform_word (perform.Drive why) = drive_word why
perform_word perform.Choice = codes "Choice"
perform_word perform.Memory = codes "Memory"
perform_word perform.Write = codes "Write"

-- the word for a refusal of `ra check`
abbrev pub trace_word : TraceError → List ℕ
trace_word trace.Read = codes "Read"
trace_word trace.Limit = codes "Limit"
trace_word trace.Memory = codes "Memory"

-- the word for a refusal of `ra draw`
abbrev pub draw_word : DrawError → List ℕ
draw_word draw.Read = codes "Read"
draw_word draw.Limit = codes "Limit"
draw_word (draw.NoLines lines) = codes "NoLines"
draw_word draw.TooLong = codes "TooLong"
draw_word draw.Memory = codes "Memory"
draw_word draw.Write = codes "Write"

-- the word for a refusal of `ra cluster`, or of `ra sim` under many seeds
abbrev pub run_word : RunScriptError → List ℕ
run_word run.Read = codes "Read"
run_word (run.Script why) = script_word why
run_word (run.Cluster why) = cluster_word why
run_word run.Choice = codes "Choice"
run_word run.Memory = codes "Memory"

-- the word for a refusal of `ra settle`
abbrev pub settle_word : SettleFault → List ℕ
settle_word settle.Read = codes "Read"
settle_word settle.Limit = codes "Limit"
settle_word settle.Memory = codes "Memory"

-- the word for a refusal of `ra node`
abbrev pub node_word : BookFault → List ℕ
node_word book.Line = codes "Line"
node_word book.Read = codes "Read"
node_word book.Write = codes "Write"

-- the word for a refusal of any command
abbrev pub word_of : CommandRefusal → List ℕ
word_of (Command why) = command_word why
word_of (Answer why) = answer_word why
word_of (Choices why) = choices_word why
word_of (Perform why) = perform_word why
word_of (Check why) = trace_word why
word_of (Draw why) = draw_word why
word_of (Cluster why) = run_word why
word_of (Survey why) = run_word why
word_of (Settle why) = settle_word why
word_of (Node why) = node_word why

-- the line of a refusal with this word
abbrev pub refused_line : List ℕ → List ℕ
refused_line word = codes "refused " ++ word ++ codes "\n"

-- the refusal is that the reader failed
abbrev pub IsOfReader : CommandRefusal → Type 0
IsOfReader (Command why) = ⊥
IsOfReader (Answer why) = why ≡ answer.Read
IsOfReader (Choices why) = ⊥
IsOfReader (Perform why) = why ≡ perform.Read
IsOfReader (Check why) = why ≡ trace.Read
IsOfReader (Draw why) = why ≡ draw.Read
IsOfReader (Cluster why) = why ≡ run.Read
IsOfReader (Survey why) = why ≡ run.Read
IsOfReader (Settle why) = why ≡ settle.Read
IsOfReader (Node why) = why ≡ book.Read

-- the refusal is that the writer failed
abbrev pub IsOfWriter : CommandRefusal → Type 0
IsOfWriter (Command why) = ⊥
IsOfWriter (Answer why) = why ≡ answer.Write
IsOfWriter (Choices why) = ⊥
IsOfWriter (Perform why) = why ≡ perform.Write
IsOfWriter (Check why) = ⊥
IsOfWriter (Draw why) = why ≡ draw.Write
IsOfWriter (Cluster why) = ⊥
IsOfWriter (Survey why) = ⊥
IsOfWriter (Settle why) = ⊥
IsOfWriter (Node why) = why ≡ book.Write
