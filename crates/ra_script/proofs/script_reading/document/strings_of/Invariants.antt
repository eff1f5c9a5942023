use Rattle.toml.specs.Data.{as_str}
use Rattle.ra_script.specs.Document.{texts}
use Rattle.ra_script.proofs.Trees.{IsReadTo}
use Rattle.ra_script.proofs.script_reading.document.strings_of.Given as goal

abbrev pub invariant-loop-item : goal.invariant-loop-item
invariant-loop-item l = IsReadTo as_str l.items.items l.item-index (texts l.strings.items)
