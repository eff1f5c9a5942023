use Rattle.ra_world.specs.Run.{marks_of}
use Rattle.ra_world.proofs.Outcomes.{has_table, as_many_wait}
use Rattle.ra_world.proofs.WorldLaws.{laws_below}
use Rattle.ra_table.proofs.History.{same_entries}
use Rattle.ra_world.proofs.laws.marks_of_runs_are_table_runs.Goals as goal

pub returns : goal.returns
returns c =
    record {
      table = has_table laws_below;
      waiting = λ n start moves nodes table count run ends. as_many_wait laws_below n start moves count run nodes table ends (same_entries (marks_of moves));
    }
