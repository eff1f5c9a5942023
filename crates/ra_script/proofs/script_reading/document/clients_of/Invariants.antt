use Rattle.std.proofs.Common.{map}
use Rattle.ra_script.specs.Document.{client_of, client_table}
use Rattle.ra_script.proofs.Trees.{IsReadTo}
use Rattle.ra_script.proofs.script_reading.document.clients_of.Given as goal

abbrev pub invariant-loop-table : goal.invariant-loop-table
invariant-loop-table l = IsReadTo client_of l.tables.items l.table-index (map client_table l.clients.items)
