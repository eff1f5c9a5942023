-- The laws on which the run of an auditor depends. A proof names them, and no code calls them.
use Rattle.std.proofs.Common.{ℕ, List}
use Rattle.ra_stamp.specs.NodeId.{IsNodeNumber}
use Rattle.ra_stamp.proofs.StampLaws.{conflict_flips, one_is_earlier}
use Rattle.ra_node.proofs.EventLemmas.{same_node}
use Rattle.ra_node.proofs.EventsKept.{event_sends}
use Rattle.ra_node.proofs.NodeLemmas.{opening_is_consistent}
use Rattle.ra_table.proofs.History.{same_entries}
use Rattle.ra_table.proofs.Runs.{holders_do_not_conflict, grants_by_stamp}
use Rattle.ra_world.specs.Traffic.{Move}
use Rattle.ra_world.specs.Run.{IsRun, marks_of}
use Rattle.ra_world.proofs.DifferentRuns.{messages_differ}
use Rattle.ra_world.proofs.Moves.{put_is_sent}
use Rattle.ra_world.proofs.Outcomes.{has_table, something_under_way, among_them}
use Rattle.ra_world.proofs.QuietRuns.{is_blocked, meets_count, blocked_may_not_enter}
use Rattle.ra_world.proofs.Reached.{under_way_more}
use Rattle.ra_world.proofs.Runs.{prefixes}
use Rattle.ra_world.proofs.WorldLaws.{laws_below, stays_consistent, between_nodes, runs_are_fair}
use Rattle.ra_audit.specs.Audit.{RunTheorem}
use Rattle.ra_audit.specs.AuditKeeping.{MessagesAreKnown}
use Rattle.ra_audit.proofs.OwnMessages.{own}
use Rattle.ra_audit.proofs.RunTheorems.{run_theorem}
use Rattle.ra_audit.proofs.UnderWay.{go_on}

-- each run meets the main theorem, and is fair
pub runs_meet_the_theorem : (n start : ℕ) (moves : List Move) → IsNodeNumber n → IsRun n start moves → RunTheorem n moves
runs_meet_the_theorem =
    run_theorem (has_table laws_below)
    (λ n start moves table e count run quiet. is_blocked laws_below n start moves count run quiet (same_entries (marks_of moves)) table e)
    (λ n start moves table e count run quiet table_run may.
    blocked_may_not_enter table e (is_blocked laws_below n start moves count run quiet (same_entries (marks_of moves)) table e table_run may.waits) may)
    (λ n start moves table count run quiet unrepeated unwithdrawn. meets_count laws_below n start moves count run quiet (same_entries (marks_of moves)) unrepeated unwithdrawn table)
    (holders_do_not_conflict conflict_flips) (grants_by_stamp conflict_flips one_is_earlier) runs_are_fair

-- messages of runs without repeats are all different, come from the nodes that sent them, and are under way until they are taken
pub messages_are_known : MessagesAreKnown
messages_are_known = record {
  different = λ n start moves count run. messages_differ laws_below n start count moves run;
  own = λ n start moves i count run low high.
      own stays_consistent event_sends same_node n start (λ prefix rest. prefixes laws_below.splits n start rest prefix)
      (λ ms message ran. between_nodes n start ms message count ran) (λ k member. opening_is_consistent k n start count member) moves i run low high;
  go_on =
      go_on laws_below.same_or_apart (something_under_way laws_below) among_them under_way_more put_is_sent
      (λ n start prefix rest. prefixes laws_below.splits n start rest prefix) (λ n start moves count run. messages_differ laws_below n start count moves run);
}
