use Rattle.ra_world.specs.Run.{marks_of}
use Rattle.ra_world.proofs.TableNodes.{table_of_nodes}
use Rattle.ra_world.proofs.WorldLaws.{laws_below}
use Rattle.ra_table.proofs.History.{same_entries}
use Rattle.ra_world.proofs.laws.tables_of_runs_are_those_of_their_nodes.Goals as goal

pub returns : goal.returns
returns c n start moves nodes table count run ends = table_of_nodes laws_below n start moves count run nodes ends (same_entries (marks_of moves)) table
