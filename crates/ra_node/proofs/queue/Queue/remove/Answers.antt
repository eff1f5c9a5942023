use Rattle.std.proofs.Common.{◌≡◌, ◌++◌, ◌∷◌, List, Option, sym, ap, ◌∙◌, subst}
use Rattle.std.specs.Prelude.{IfSome}
use Rattle.std.specs.HashMap.{keys}
use Rattle.std.proofs.lemmas.List.{get_or_default}
use Rattle.ra_node.specs.declared.queued_client.Queued.{Queued}
use Rattle.ra_node.specs.Queue.{AreApart, AreClients}
use Rattle.ra_node.proofs.Known.{parts_at}
use Rattle.ra_node.proofs.queue.Queue.remove.Goals as goal

pub invariant_of-self-2 : goal.invariant_of-self-2
invariant_of-self-2 c =
    let gone = c.in-Some-remove.gone in
    let parts = parts_at c.self.inside.clients.items c.in-Some.place gone c.in-Some.ensures.found.1 (sym c.in-Some-remove.ensures.value) in
    let apart = subst AreApart (sym c.self.view_is ∙ parts.2) c.requires in
    let known = subst (λ (queue : List Queued). IfSome c.self.inside.known (λ k. AreClients (keys k.value) queue)) parts.2 c.self.invariant in
    c.unlearn.ensures parts.0 parts.1 (c.in-Some-remove.ensures.items ∙ parts.3) apart
    (subst (λ (o : Option _). IfSome o (λ k. AreClients (keys k.value) (parts.0 ++ gone ∷ parts.1))) (sym c.take.ensures.value) known)

pub returns : goal.returns
returns c =
    let gone = c.in-Some-remove.gone in
    let queue = c.self.inside.clients.items in
    let found = c.in-Some.ensures.found in
    let parts = parts_at queue c.in-Some.place gone found.1 (sym c.in-Some-remove.ensures.value) in
    let same : gone ≡ found.0 = c.in-Some-remove.ensures.value ∙ get_or_default queue c.in-Some.place gone found.0 found.1 ∙ found.2 in
    (parts.0, gone, parts.1, ap (λ (q : Queued). q.client) same ∙ found.3, sym c.self.view_is ∙ parts.2, c.in-Some-remove.ensures.items ∙ parts.3)
