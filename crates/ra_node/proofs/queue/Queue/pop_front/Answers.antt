use Rattle.std.proofs.Common.{◌≡◌, [], ◌∷◌, List, Option, refl, sym, ◌∙◌, subst}
use Rattle.std.specs.Prelude.{IfSome}
use Rattle.std.specs.HashMap.{keys}
use Rattle.ra_node.specs.declared.queued_client.Queued.{Queued}
use Rattle.ra_node.specs.Queue.{AreApart, AreClients}
use Rattle.ra_node.proofs.queue.Queue.pop_front.Goals as goal

pub invariant_of-self-2 : goal.invariant_of-self-2
invariant_of-self-2 c =
    let left = c.pop_front.new.self.items in
    let first = c.in_ok-first.first in
    let was : c.self.inside.clients.items ≡ first ∷ left = c.in_ok-first.ensures.items in
    let apart = subst AreApart (sym c.self.view_is ∙ was) c.requires in
    let known = subst (λ (queue : List Queued). IfSome c.self.inside.known (λ k. AreClients (keys k.value) queue)) was c.self.invariant in
    c.unlearn.ensures [] left refl apart (subst (λ (o : Option _). IfSome o (λ k. AreClients (keys k.value) (first ∷ left))) (sym c.take.ensures.value) known)
