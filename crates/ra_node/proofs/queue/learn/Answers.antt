use Rattle.std.proofs.Common.{rules, ◌≡◌, ℕ, nat_eq, Some, cond}
use Rattle.std.specs.Map.{lookup}
use Rattle.std.specs.HashMap.{keys}
use Rattle.ra_node.proofs.Known.{one_key_more, learned}
use Rattle.ra_node.proofs.queue.learn.Goals as goal

pub returns : goal.returns
returns c = λ before last is are.
    let old = c.args.known.value in
    let new = c.insert.new.self in
    let updates : (q : ℕ) → lookup (nat_eq q) new.entries ≡ cond (nat_eq last.client q) (Some tt) (lookup (nat_eq q) old.entries) = search rules in
    learned (keys old) (keys new) before last are (one_key_more old.entries new.entries last.client tt updates)
