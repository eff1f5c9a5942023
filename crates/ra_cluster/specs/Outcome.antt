-- Into what the books of a script's nodes settle, and why they may not.
use Rattle.std.specs.Prelude.{◌≡◌, ◌≢◌, ◌↔◌, ◌*◌, ◌-◌, false, List, [], ◌∷◌, All, AllPairs, map, length, Option, Some, None, Result, IsErrOf}
use Rattle.ra_schedule.specs.Script.{ScriptState}
use Rattle.ra_schedule.specs.LockOrder.{IsOutOfOrder, IsUnreleased}
use Rattle.ra_world.specs.declared.text.report.Report.{Report}
use Rattle.ra_world.specs.Traffic.{Move}
use Rattle.ra_world.specs.Run.{IsRun}
use Rattle.ra_world.specs.World.{Reports}
use Rattle.ra_world.specs.MainTheorem.{MainTheorem}
use Rattle.ra_cluster.specs.declared.cluster_run.ClusterError.{ClusterError}
use Rattle.ra_cluster.specs.declared.cluster_run.ClusterError.TheVariants.{OutOfOrder, Unreleased, Fault, Settle, PlanUnmet, Lost, UnderWay, Memory}
use Rattle.ra_book.specs.declared.book.grant.Grant.{Grant}
use Rattle.ra_book.specs.declared.settle_books.settled.Settled.{Settled}
use Rattle.ra_book.specs.declared.book.stop.Stop.{Stop}
use Rattle.ra_book.specs.Book.{BookState, HasHistory}
use Rattle.ra_cluster.specs.Plan.{MeetsPlan, IsQuietEnd, locks_of}
use Rattle.ra_book.specs.Settled.{IsCluster, IsSettledOrder, IsSettledRun, Placed, IsGranted, BooksFit, HasUnsent, settled_steps}

-- the first fault, or the other one if the first does not exist
abbrev pub fault_or : Option Stop → Option Stop → Option Stop
fault_or (Some stop) other = Some stop
fault_or None other = other

-- the fault of the first book that has one
abbrev pub first_fault : List BookState → Option Stop
first_fault [] = None
first_fault (book ∷ books) = fault_or book.fault (first_fault books)

-- `OutOfOrder` and `Unreleased` are answered exactly if the script is so: a client takes names out of order, or
-- otherwise one holds a name at its end
pub record ChecksScript {T : Type 0} (script : ScriptState) (answer : Result T ClusterError) : Type 0 where
  pub out_of_order : IsErrOf answer OutOfOrder ↔ IsOutOfOrder script
  pub unreleased : IsErrOf answer Unreleased ↔ ((IsOutOfOrder script → ⊥) × IsUnreleased script)

-- a refusal that can come only after the script was looked at
abbrev pub IsOfThreads : ClusterError → Type 0
IsOfThreads e = (e ≢ OutOfOrder) × (e ≢ Unreleased)

-- the books belong to the nodes of a script, in order, with numbers that begin at 0
pub record AreOf (script : ScriptState) (books : List BookState) : Type 0 where
  pub cluster : IsCluster books
  pub count : length books ≡ script.nodes
  pub start : All (λ b. b.start ≡ 0) books

-- the books fit together, and they have each grant of the clients, each once
pub record AreSound (books : List BookState) (grants : List Grant) : Type 0 where
  pub fit : BooksFit books
  pub granted : All (λ g. IsGranted books g.entry) grants
  pub once : AllPairs (λ a b. a ≢ b) grants

-- What the books of a script's nodes settle into: the steps of these very books in the settled order, with their losses
-- after them, and the report of the run of these steps. Since only one settled order exists, only one such outcome
-- exists.
pub record IsOutcome (script : ScriptState) (books : List BookState) (grants : List Grant)
    (settled : Settled) : Type 0 where
  pub are : AreOf script books
  pub sound : AreSound books grants
  pub placed : List Placed
  pub order : IsSettledOrder books placed
  pub steps_are : settled.steps.items ≡ settled_steps books placed
  pub moves : List Move
  pub moves_are : map (λ move. move.step) moves ≡ settled.steps.items
  pub settled_run : IsSettledRun books moves
  pub run : IsRun script.nodes 0 moves
  pub reports : Reports script.nodes 0 moves settled.report
  pub main_theorem : MainTheorem script.nodes settled.report

-- why a run did not bring the script to its end
abbrev pub RefusesReport : ScriptState → Report → ClusterError → Type 0
RefusesReport script report OutOfOrder = ⊥
RefusesReport script report Unreleased = ⊥
RefusesReport script report (Fault stop) = ⊥
RefusesReport script report Settle = ⊥
RefusesReport script report PlanUnmet = MeetsPlan script report.marks.items × (report.queued ≡ 0) → ⊥
RefusesReport script report Lost = MeetsPlan script report.marks.items × (report.queued ≡ 0) × (report.lost ≢ 0)
RefusesReport script report UnderWay =
    MeetsPlan script report.marks.items × (report.queued ≡ 0) × (report.lost ≡ 0) × (report.under_way ≢ 0)
RefusesReport script report Memory = ⊥

-- the books settle, and the report of their run is refused for this cause
abbrev pub IsReported : ScriptState → List BookState → List Grant → ClusterError → Type 0
IsReported script books grants fault =
    (settled : Settled) × IsOutcome script books grants settled × RefusesReport script settled.report fault

-- Why a script was not brought to its end, if no book has a fault. Memory may run out only after the books were found
-- to belong to the script's nodes, and each frame that came to have been sent.
abbrev pub RefusesSound : ScriptState → List BookState → List Grant → ClusterError → Type 0
RefusesSound script books grants OutOfOrder = ⊥
RefusesSound script books grants Unreleased = ⊥
RefusesSound script books grants (Fault stop) = ⊥
RefusesSound script books grants Settle = AreOf script books → AreSound books grants → ⊥
RefusesSound script books grants PlanUnmet = IsReported script books grants PlanUnmet
RefusesSound script books grants Lost = IsReported script books grants Lost
RefusesSound script books grants UnderWay = IsReported script books grants UnderWay
RefusesSound script books grants Memory = AreOf script books × (HasUnsent books → ⊥)

-- a script was brought to its end: what is promised of the run and its report
pub record IsDone (script : ScriptState) (settled : Settled) : Type 0 where
  pub moves : List Move
  pub moves_are : map (λ move. move.step) moves ≡ settled.steps.items
  pub run : IsRun script.nodes 0 moves
  pub reports : Reports script.nodes 0 moves settled.report
  pub main_theorem : MainTheorem script.nodes settled.report
  pub plan : MeetsPlan script settled.report.marks.items
  pub ended : IsQuietEnd settled.report
  pub unrepeated : settled.report.repeated ≡ 0
  pub none_waits : settled.report.waiting ≡ 0
  pub requests : settled.report.requests ≡ locks_of script
  pub count : settled.report.sent ≡ 2 * (script.nodes - 1) * locks_of script

-- A record of a run that brought the script to its end, as threads make one: these books have the histories of its
-- nodes. No node was stopped, and no frame is flagged lost. They settle into this run.
pub record IsRecord (script : ScriptState) (books : List BookState) (settled : Settled) : Type 0 where
  pub histories : All HasHistory books
  pub no_fault : All (λ book. book.fault ≡ None) books
  pub kept : All (λ book. All (λ sent. sent.lost ≡ false) book.sent) books
  pub grants : List Grant
  pub outcome : IsOutcome script books grants settled
  pub done : IsDone script settled
