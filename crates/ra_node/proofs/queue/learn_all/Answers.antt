use Rattle.std.proofs.Common.{rules, ◌≡◌, ◌<◌, ◌≤◌, List, ◌++◌, ◌∷◌, [], ℕ, suc, ◌+◌, arith, nat_eq, Some, cond, take, length, subst, sym, ap, ◌∙◌}
use Rattle.std.proofs.Math.Seq.{take-suc}
use Rattle.std.proofs.lemmas.List.{take_all}
use Rattle.std.specs.Map.{lookup}
use Rattle.std.specs.HashMap.{HashMap, keys}
use Rattle.ra_node.specs.declared.queued_client.Queued.{Queued}
use Rattle.ra_node.specs.Queue.{AreClients}
use Rattle.ra_node.proofs.Known.{one_key_more, learned, boxed}
use Rattle.ra_node.proofs.queue.learn_all.Goals as goal

pub loop-place-preserved : goal.loop-place-preserved
loop-place-preserved c =
    let old = c.loop-place.known in
    let new = c.insert.new.self in
    let clients = c.args.clients.now.items in
    let place = c.loop-place.place in
    let last = c.index.result.now in
    let updates : (q : ℕ) → lookup (nat_eq q) new.entries ≡ cond (nat_eq last.client q) (Some tt) (lookup (nat_eq q) old.entries) = search rules in
    let within : place < length clients = search rules in
    let one_more : suc place ≡ place + 1 = omega arith in
    let next = ap (λ queued. take place clients ++ queued ∷ []) c.index.ensures ∙ sym (take-suc clients place last within) in
    let more = learned (keys old) (keys new) (take place clients) last c.loop-place.invariant.known (one_key_more old.entries new.entries last.client tt updates) in
    record { known = subst (λ (count : ℕ). AreClients (keys new) (take count clients)) one_more (subst (AreClients (keys new)) next more) }

pub returns : goal.returns
returns c =
    let clients = c.args.clients.now.items in
    let end : length clients ≤ c.loop-place.place = search rules in
    let all = subst (λ (queue : List Queued). AreClients (keys c.loop-place.known) queue) (take_all c.loop-place.place clients end) c.loop-place.invariant.known in
    boxed c.new.result c.ok.result (λ (b : _). b.value) (λ (m : HashMap _ _ _). AreClients (keys m) clients) c.loop-place.known c.new.ensures.ok c.ok.ensures.value all
