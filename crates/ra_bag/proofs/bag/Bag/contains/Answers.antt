use Rattle.std.proofs.Common.{rules, List, ◌↔◌, Contains, ap, subst}
use Rattle.std.specs.Prelude.{IsSome, IsTrue}
use Rattle.ra_stamp.specs.Sequence.{Listed}
use Rattle.ra_stamp.specs.declared.message.Message.{Message}
use Rattle.ra_bag.proofs.bag.Bag.contains.Goals as goal

pub returns-then-are_known : goal.returns-then-are_known
returns-then-are_known c =
    let known : IsSome c.tell.result ↔ Contains c.args.self.now.items c.args.message.now =
    subst (λ (ms : List Message). IsSome c.tell.result ↔ Contains ms c.args.message.now) (ap (λ (b : Listed Message). b.items) c.self.view_is)
    (c.tell.ensures.some c.self.inside.slots.items c.self.invariant.2) in
    search (known, rules)

pub returns : goal.returns
returns c =
    subst (λ (ms : List Message). IsTrue c.contains.result ↔ Contains ms c.args.message.now) (ap (λ (b : Listed Message). b.items) c.self.view_is) c.contains.ensures
