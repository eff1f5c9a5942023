use Rattle.std.proofs.Common.{◌++◌, ◌∷◌, List, Option, sym, subst}
use Rattle.std.specs.Prelude.{IfSome}
use Rattle.std.specs.HashMap.{HashMap, keys}
use Rattle.ra_node.specs.declared.queued_client.Queued.{Queued}
use Rattle.ra_node.specs.Queue.{AreClients}
use Rattle.ra_node.proofs.Known.{one_key_less, unlearned}
use Rattle.ra_node.proofs.queue.unlearn.Goals as goal

pub returns : goal.returns
returns c = λ before after left_is apart knows.
    let gone = c.args.gone.now in
    let old = c.deref_mut.result.now in
    let new = c.remove.new.self in
    let are : AreClients (keys c.in_ok-known.known.value) (before ++ gone ∷ after) = subst (λ (o : Option _). IfSome o (λ k. AreClients (keys k.value) (before ++ gone ∷ after))) c.in_ok-known.was knows in
    let known = subst (λ (m : HashMap _ _ _). AreClients (keys m) (before ++ gone ∷ after)) (sym c.deref_mut.ensures.value) are in
    subst (λ (left : List Queued). AreClients (keys new) left) (sym left_is) (unlearned (keys old) (keys new) before gone after apart known (one_key_less old.entries new.entries gone.client c.remove.ensures.updates.0))
