use Rattle.std.proofs.Common.{ℕ, ◌≤◌, List, take}
use Rattle.ra_stamp.specs.declared.entry.Mark.{Mark}
use Rattle.ra_schedule.specs.Progress.{NoneEnters}
use Rattle.ra_schedule.proofs.driver.client_progress.first_entered.Given as goal

-- no client before the place entered by the marks so far
pub record SoFar (place first : ℕ) (marks : List Mark) : Type 0 where
  pub not_past : place ≤ first
  pub none : NoneEnters place marks

abbrev pub invariant-loop-mark : goal.invariant-loop-mark
invariant-loop-mark l = SoFar l.place l.first (take l.mark-index l.marks)
