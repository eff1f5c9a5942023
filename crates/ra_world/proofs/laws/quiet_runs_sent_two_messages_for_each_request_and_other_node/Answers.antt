use Rattle.ra_world.specs.Run.{marks_of}
use Rattle.ra_world.proofs.QuietRuns.{meets_count}
use Rattle.ra_world.proofs.WorldLaws.{laws_below}
use Rattle.ra_table.proofs.History.{same_entries}
use Rattle.ra_world.proofs.laws.quiet_runs_sent_two_messages_for_each_request_and_other_node.Goals as goal

pub returns : goal.returns
returns c n start moves table count run quiet unrepeated unwithdrawn = meets_count laws_below n start moves count run quiet (same_entries (marks_of moves)) unrepeated unwithdrawn table
