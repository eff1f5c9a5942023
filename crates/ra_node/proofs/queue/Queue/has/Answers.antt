use Rattle.std.proofs.Common.{◌≡◌, ◌↔◌, Any, List, Option, ◌∙◌, sym, subst, nat_eq}
use Rattle.std.specs.Prelude.{IfSome, IsTrue}
use Rattle.std.specs.HashMap.{HashMap, keys}
use Rattle.ra_node.specs.declared.queued_client.Queued.{Queued}
use Rattle.ra_node.specs.Queue.{AreClients}
use Rattle.ra_node.proofs.Known.{finds, has_value}
use Rattle.ra_node.proofs.queue.Queue.has.Goals as goal

pub returns-in-Some : goal.returns-in-Some
returns-in-Some c =
    let known = c.deref.result.now in
    let here = subst (λ (o : Option _). IfSome o (λ k. AreClients (keys k.value) c.self.inside.clients.items)) c.in-Some.is c.self.invariant in
    let are = subst (λ (m : HashMap _ _ _). AreClients (keys m) c.args.self.now) (sym c.deref.ensures) (subst (AreClients (keys c.in-Some.known.value)) c.self.view_is here) in
    finds (keys known) c.args.self.now c.args.client c.contains_key.result are (c.contains_key.ensures ∙ has_value (nat_eq c.args.client) known.entries)

pub returns-in-None : goal.returns-in-None
returns-in-None c = subst (λ (queue : List Queued). IsTrue c.is_among.result ↔ Any (λ queued. queued.client ≡ c.args.client) queue) c.self.view_is c.is_among.ensures
