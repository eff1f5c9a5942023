-- The laws of runs and of the lock table that traces and mark logs depend on. A proof names them, and no code calls
-- them.
use Rattle.std.proofs.Common.{refl}
use Rattle.ra_table.specs.Table.{empty_table}
use Rattle.ra_table.proofs.History.{same_entries}
use Rattle.ra_table.proofs.Next.{next_mark}
use Rattle.ra_table.proofs.Runs.{steps_split, steps_grow}
use Rattle.ra_world.proofs.Outcomes.{has_table}
use Rattle.ra_world.proofs.Runs.{nothing_happened, one_run, prefixes}
use Rattle.ra_world.proofs.WorldLaws.{laws_below}
use Rattle.ra_trace.specs.Below.{LawsBelow}
use Rattle.ra_trace.specs.MarksAlong.{TableLaws}

-- the laws that traces depend on
pub traces_rest_on_runs : LawsBelow
traces_rest_on_runs = record {
  none = nothing_happened;
  prefixes = λ n start prefix rest. prefixes laws_below.splits n start rest prefix;
  determined = one_run laws_below;
  has_table = has_table laws_below;
  empty = refl;
  splits = steps_split;
  steps_on = λ marks mark table next. steps_grow marks mark empty_table table next;
  goes_on = next_mark;
}

-- the laws that mark logs depend on
pub mark_logs_rest_on_tables : TableLaws
mark_logs_rest_on_tables = record {
  empty = refl;
  splits = steps_split;
  steps_on = λ marks mark table next. steps_grow marks mark empty_table table next;
  goes_on = next_mark;
  same = same_entries;
}
