use Rattle.std.proofs.Common.{refl}
use Rattle.ra_table.specs.Table.{empty_table}
use Rattle.ra_table.proofs.Runs.{steps_join, steps_split, steps_grow}
use Rattle.ra_table.proofs.Next.{next_mark}
use Rattle.ra_table.proofs.laws.runs_go_on_by_steps.Goals as goal

pub returns : goal.returns
returns c = record {
  empty = refl;
  step = λ marks mark table next. steps_grow marks mark empty_table table next;
  joins = steps_join;
  splits = steps_split;
  next = next_mark;
}
