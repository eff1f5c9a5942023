use Rattle.std.proofs.Common.{rules, ◌≡◌, arith}
use Rattle.ra_bag.proofs.Emptied.{at_full}
use Rattle.ra_bag.proofs.bag.slot_at.Goals as goal

pub returns-then-empty-eq0 : goal.returns-then-empty-eq0
returns-then-empty-eq0 c =
    let none : c.args.empty ≡ 0 = search rules in
    at_full c.args.slots.now.items c.args.place (omega (arith, none, c.requires.count))
