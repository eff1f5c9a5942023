use Rattle.std.proofs.Common.{take}
use Rattle.std.specs.HashMap.{keys}
use Rattle.ra_node.specs.Queue.{AreClients}
use Rattle.ra_node.proofs.queue.learn_all.Given as goal

-- the clients so far are known
abbrev pub invariant-loop-place : goal.invariant-loop-place
invariant-loop-place l =
    record {
      known : AreClients (keys l.known) (take l.place l.clients.items);
    }
