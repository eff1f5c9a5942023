use Rattle.ra_world.proofs.QuietRuns.{is_blocked, blocked_may_not_enter}
use Rattle.ra_world.specs.Run.{marks_of}
use Rattle.ra_world.proofs.WorldLaws.{laws_below}
use Rattle.ra_table.proofs.History.{same_entries}
use Rattle.ra_world.proofs.laws.waiting_requests_are_blocked_in_quiet_runs.Goals as goal

pub returns : goal.returns
returns c =
    record {
      blocked = λ n start moves table e count run quiet. is_blocked laws_below n start moves count run quiet (same_entries (marks_of moves)) table e;
      no_entry = λ n start moves table e count run quiet table_run may.
          blocked_may_not_enter table e (is_blocked laws_below n start moves count run quiet (same_entries (marks_of moves)) table e table_run may.waits) may;
    }
