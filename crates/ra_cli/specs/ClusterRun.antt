-- What `ra cluster` does.
use Rattle.std.specs.Prelude.{◌≡◌, ◌≢◌, ℕ, List, Option, IfSome, Ok, Err, flat_map}
use Rattle.std.specs.List.{AllZip}
use Rattle.std.specs.Io.KnownBytes.{Consumes, Appends}
use Rattle.ra_text.specs.declared.error.ReadFault.{ReadFault}
use Rattle.ra_text.specs.declared.error.ReadFault.TheVariants as read
use Rattle.ra_world.specs.declared.text.report.Report.{Report}
use Rattle.ra_world.specs.Lines.{report_text}
use Rattle.ra_world.specs.Traffic.{Move}
use Rattle.ra_schedule.specs.Script.{ScriptState}
use Rattle.ra_trace.specs.TraceText.{IsTrace}
use Rattle.ra_schedule.specs.declared.error.ChoicesError.{ChoicesError}
use Rattle.ra_schedule.specs.declared.error.ChoicesError.TheVariants as choices
use Rattle.ra_script.specs.declared.error.ScriptError.{ScriptError}
use Rattle.ra_script.specs.declared.error.ScriptError.TheVariants as text
use Rattle.ra_script.specs.ScriptText.{script_of}
use Rattle.ra_cluster.specs.declared.cluster_run.ClusterError.{ClusterError}
use Rattle.ra_cluster.specs.declared.cluster_run.ClusterError.TheVariants as cluster
use Rattle.ra_schedule.specs.LockOrder.{IsOutOfOrder, IsUnreleased}
use Rattle.ra_cluster.specs.Outcome.{IsRecord}
use Rattle.ra_book.specs.declared.settle_books.settled.Settled.{Settled}
use Rattle.ra_book.specs.Book.{BookState}
use Rattle.ra_book_text.specs.Book.{lines_text}
use Rattle.ra_book_text.specs.Written.{IsWrittenBook}
use Rattle.ra_arguments.specs.declared.cluster_output.ClusterOutput.{ClusterOutput}
use Rattle.ra_arguments.specs.declared.cluster_output.ClusterOutput.TheVariants.{Lines, Trace, Books}
use Rattle.ra_cli.specs.declared.error.RunScriptError.{RunScriptError}
use Rattle.ra_cli.specs.declared.error.RunScriptError.TheVariants as fault

-- the output is the text of these books, one after the other, each as it is written
abbrev pub AreWrittenBooks : List BookState → (output : List ℕ) → Type 0
AreWrittenBooks books output = (written : List (List (List ℕ))) × AllZip IsWrittenBook written books
    × (output ≡ flat_map lines_text written)

-- what the output says of a run of nodes with numbers that begin at 0: the lines of its report, its trace, or these
-- books, which settle into it
abbrev pub SaysRun : ClusterOutput → (nodes : ℕ) → List BookState → List Move → Report → (output : List ℕ) → Type 0
SaysRun Lines nodes books moves report output = output ≡ report_text report
SaysRun Trace nodes books moves report output = IsTrace nodes 0 moves output
SaysRun Books nodes books moves report output = AreWrittenBooks books output

-- The output shows books that threads may have recorded of the script, or the one run that they settle into. `IsRecord`
-- has all that is promised about both. For example, the marks of each client are its operations' marks, in order.
-- Nothing waits or is queued, and no message is lost or under way. Each lock of the script was requested, and exactly
-- two messages were sent for each request and other node.
pub record SaysScript (printed : ClusterOutput) (script : ScriptState) (output : List ℕ) : Type 0 where
  pub books : List BookState
  pub settled : Settled
  pub recorded : IsRecord script books settled
  pub says : SaysRun printed script.nodes books recorded.outcome.moves settled.report output

-- the input is the text of a script, and the output shows such a run of it
abbrev pub IsClusterRun : ClusterOutput → (input output : List ℕ) → Type 0
IsClusterRun printed input output = (script : ScriptState) × (script_of input ≡ Ok script)
    × SaysScript printed script output

-- If the input is known, it is the text of a script, and it was read to its end. Exactly what is printed of one such
-- run of the script was written: of books that threads may have recorded (`IsRecord`), not certainly of those that they
-- did record. If the input is not known, such a text still exists.
abbrev pub RunsCluster : ClusterOutput → (old new before after : Option (List ℕ)) → Type 0
RunsCluster printed old new before after =
    IfSome old (λ input. (output : List ℕ) × IsClusterRun printed input output × Consumes old new input
    × Appends before after output)
    × ((input output : List ℕ) × IsClusterRun printed input output × Appends before after output)

-- ---- Refusals

-- threads may run the script: each client takes its names in ascending order, and gives them all back
abbrev pub MayRun : ScriptState → Type 0
MayRun script = (IsOutOfOrder script → ⊥) × (IsUnreleased script → ⊥)

-- which scripts each refusal is for. After the first two it is said only that threads may run the script: the script
-- does not decide whether they bring it to its end. `Memory` is treated elsewhere.
abbrev pub StopsAt : ScriptState → ClusterError → Type 0
StopsAt script cluster.OutOfOrder = IsOutOfOrder script
StopsAt script cluster.Unreleased = (IsOutOfOrder script → ⊥) × IsUnreleased script
StopsAt script (cluster.Fault stop) = MayRun script
StopsAt script cluster.Settle = MayRun script
StopsAt script cluster.PlanUnmet = MayRun script
StopsAt script cluster.Lost = MayRun script
StopsAt script cluster.UnderWay = MayRun script
StopsAt script cluster.Memory = ⊥

-- When each refusal may come. For `Script`, `OutOfOrder` and `Unreleased`, the input has this cause and no earlier one.
-- For the other refusals of threads, it is a script that they may run. `Choice` may not come. `Memory` and faults of
-- the reader come from outside.
abbrev pub RefusesRun : List ℕ → RunScriptError → Type 0
RefusesRun input fault.Read = Unit {0}
RefusesRun input (fault.Script why) = (why ≢ text.Memory) × (script_of input ≡ Err why)
RefusesRun input (fault.Cluster why) = (script : ScriptState) × (script_of input ≡ Ok script) × StopsAt script why
RefusesRun input fault.Choice = ⊥
RefusesRun input fault.Memory = Unit {0}

-- ---- How the refusals of the parts become refusals of a run

-- the refusal of an input that was not read
abbrev pub of_read : ReadFault → RunScriptError
of_read read.Read = fault.Read
of_read read.Memory = fault.Memory

-- the refusal of a text that is not a script
abbrev pub of_script : ScriptError → RunScriptError
of_script text.Toml = fault.Script text.Toml
of_script text.Shape = fault.Script text.Shape
of_script text.Nodes = fault.Script text.Nodes
of_script text.Clients = fault.Script text.Clients
of_script text.Op = fault.Script text.Op
of_script text.NotHeld = fault.Script text.NotHeld
of_script text.AlreadyHeld = fault.Script text.AlreadyHeld
of_script text.Limit = fault.Script text.Limit
of_script text.Memory = fault.Memory

-- the refusal of choices that are not written
abbrev pub of_choices : ChoicesError → RunScriptError
of_choices choices.Choice = fault.Choice
of_choices choices.Memory = fault.Memory

-- the refusal of a script that threads did not bring to its end
abbrev pub of_cluster : ClusterError → RunScriptError
of_cluster cluster.OutOfOrder = fault.Cluster cluster.OutOfOrder
of_cluster cluster.Unreleased = fault.Cluster cluster.Unreleased
of_cluster (cluster.Fault stop) = fault.Cluster (cluster.Fault stop)
of_cluster cluster.Settle = fault.Cluster cluster.Settle
of_cluster cluster.PlanUnmet = fault.Cluster cluster.PlanUnmet
of_cluster cluster.Lost = fault.Cluster cluster.Lost
of_cluster cluster.UnderWay = fault.Cluster cluster.UnderWay
of_cluster cluster.Memory = fault.Memory
