use Rattle.ra_schedule.proofs.ScriptNames.{HasNames}
use Rattle.ra_schedule.proofs.script.script_names.put_names.Given as goal

-- the names of the operations so far
abbrev pub invariant-loop-place : goal.invariant-loop-place
invariant-loop-place l = HasNames l.script l.client l.place l.fn.names.keys l.names.keys
