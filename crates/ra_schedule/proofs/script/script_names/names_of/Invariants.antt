use Rattle.ra_schedule.proofs.ScriptNames.{HasNamesUpTo}
use Rattle.ra_schedule.proofs.script.script_names.names_of.Given as goal

-- the names of the clients so far
abbrev pub invariant-loop-place : goal.invariant-loop-place
invariant-loop-place l = HasNamesUpTo l.script l.place l.names.keys
