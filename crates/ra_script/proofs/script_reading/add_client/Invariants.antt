use Rattle.ra_script.specs.Document.{texts}
use Rattle.ra_script.proofs.Adding.{IsAddedTo}
use Rattle.ra_script.proofs.script_reading.add_client.Given as goal

abbrev pub invariant-loop-string : goal.invariant-loop-string
invariant-loop-string l = IsAddedTo l.fn.script l.node (texts l.strings) l.string-index l.script
