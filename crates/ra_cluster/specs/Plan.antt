-- What is looked at in the marks and the report of a script that threads ran.
use Rattle.std.specs.Prelude.{◌≡◌, ℕ, Bool, true, false, List, Some}
use Rattle.ra_stamp.specs.declared.entry.Mark.{Mark}
use Rattle.ra_stamp.specs.declared.entry.Mark.TheVariants.{Requested, Entered, Left, Withdrawn}
use Rattle.ra_schedule.specs.Script.{ScriptState, ScriptClient, client_at}
pub use Rattle.ra_schedule.specs.Performing.{locks_in, locks_of}
pub use Rattle.ra_schedule.specs.Plan.{client_of_mark, marks_of_client, IsRequestFor, IsNextMark}
pub use Rattle.ra_schedule.specs.Plan.{FollowsOps, MeetsPlanOf, MeetsPlan}
use Rattle.ra_world.specs.declared.text.report.Report.{Report}

-- the client exists, and the marks that name it are its operations' marks
abbrev pub IsFollowed : ScriptState → ℕ → List Mark → Type 0
IsFollowed script client marks = (c : ScriptClient) × (client_at script client ≡ Some c)
    × FollowsOps c.node c.ops (marks_of_client client marks)

-- whether a mark says that a request is made
abbrev pub is_request : Mark → Bool
is_request (Requested entry) = true
is_request (Entered entry) = false
is_request (Left entry) = false
is_request (Withdrawn entry) = false

-- no client is queued, and no message is lost or under way
pub record IsQuietEnd (report : Report) : Type 0 where
  pub queued : report.queued ≡ 0
  pub lost : report.lost ≡ 0
  pub under_way : report.under_way ≡ 0
