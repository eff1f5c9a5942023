use Rattle.std.proofs.Common.{map}
use Rattle.ra_script.specs.Document.{client_table}
use Rattle.ra_script.proofs.Scripts.{IsScriptTo}
use Rattle.ra_script.proofs.script_reading.script_with.Given as goal

abbrev pub invariant-loop-client : goal.invariant-loop-client
invariant-loop-client l = IsScriptTo l.nodes (map client_table l.clients) l.client-index l.script
