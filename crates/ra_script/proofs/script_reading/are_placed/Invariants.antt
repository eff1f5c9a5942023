use Rattle.std.proofs.Common.{◌≡◌, true, take}
use Rattle.std.specs.List.{list_all}
use Rattle.ra_script.specs.ScriptText.{is_up_to}
use Rattle.ra_script.proofs.script_reading.are_placed.Given as goal

-- each client so far is at one of the nodes
abbrev pub invariant-loop-client : goal.invariant-loop-client
invariant-loop-client l = list_all (λ client. is_up_to l.nodes client.node) (take l.client-index l.clients) ≡ true
