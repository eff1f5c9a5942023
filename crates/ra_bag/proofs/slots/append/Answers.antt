use Rattle.std.proofs.Common.{◌∷◌, [], ◌++◌, Some, map, sym, ap, ◌∙◌}
use Rattle.std.proofs.lemmas.List.{take_all}
use Rattle.ra_bag.proofs.Told.{one_more}
use Rattle.ra_bag.proofs.slots.append.Goals as goal

pub loop-message-preserved : goal.loop-message-preserved
loop-message-preserved c =
    let held = c.loop-message.invariant in
    record {
      sent = c.push_back_reserved.ensures.items ∙ ap (λ slots. slots ++ Some c.message-item.result ∷ []) held.sent
          ∙ one_more c.args.slots.now.items c.args.messages.now c.loop-message.message-index c.message-item.result c.loop-message-test.true (sym c.message-item.is);
      capacity = c.push_back_reserved.ensures.capacity ∙ held.capacity;
    }

pub returns-clause-items : goal.returns-clause-items
returns-clause-items c =
    c.loop-message.invariant.sent
    ∙ ap (λ ms. c.args.slots.now.items ++ map Some ms) (take_all c.loop-message.message-index c.args.messages.now c.loop-message-test.false)
