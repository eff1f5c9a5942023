use Rattle.std.proofs.Common.{◌≡◌, ◌≤◌, ◌++◌, ◌∷◌, [], arith, sym}
use Rattle.std.proofs.lemmas.List.{append-nil}
use Rattle.std.proofs.lemmas.Result.{IfOk-at_ok}
use Rattle.ra_world.proofs.OneMore.{next_added, all_added}
use Rattle.ra_world.proofs.world.step_log.append.Goals as goal

pub loop-item-preserved : goal.loop-item-preserved
loop-item-preserved g c =
    let so_far = c.loop-item.invariant in
    let some : 1 ≤ c.loop-item.list.spare = omega (arith, so_far.room, c.loop-item-test.true, c.requires) in
    let added = IfOk-at_ok (λ _. c.push.new.self.items ≡ c.loop-item.list.items ++ c.item-item.result ∷ []) c.unwrap.ensures c.push.ensures.ok in
    record {
      items = next_added c.args.list.now.items c.loop-item.list.items c.push.new.self.items c.args.items.now c.loop-item.item-index c.item-item.result
          so_far.items added c.loop-item-test.true c.item-item.is;
      room = omega (arith, c.push.ensures.spare some, so_far.room);
    }

pub returns : goal.returns
returns g c =
    all_added c.args.list.now.items c.loop-item.list.items c.args.items.now c.loop-item.item-index c.loop-item.invariant.items c.loop-item-test.false

pub loop-item-init : goal.loop-item-init
loop-item-init g c = record { items = sym (append-nil c.args.list.now.items); room = omega arith }
