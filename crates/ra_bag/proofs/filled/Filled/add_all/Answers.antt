use Rattle.std.proofs.Common.{◌++◌, Some, map, take, sym, ap, subst, arith}
use Rattle.std.proofs.lemmas.List.{length-append, length-map, length-take-le, take_all}
use Rattle.ra_bag.specs.Filled.{IsShown}
use Rattle.ra_bag.proofs.Told.{one_more}
use Rattle.ra_bag.proofs.filled.Filled.add_all.Goals as goal

pub loop-message-preserved : goal.loop-message-preserved
loop-message-preserved c =
    let ms = c.args.messages.now in
    let i = c.loop-message.message-index in
    let lt = c.loop-message-test.true in
    let held = c.loop-message.invariant in
    let next = c.in-Some.ensures.1 in
    record {
      next = omega (arith, held.next, next);
      shown = λ slots len shown.
          subst (IsShown c.add.new.self) (one_more slots ms i c.message-item.result lt (sym c.message-item.is))
          (c.in_ok-add.ensures (slots ++ map Some (take i ms))
          (omega (arith, held.next, len, length-append slots (map Some (take i ms)), length-map (take i ms) Some, length-take-le i ms (omega (arith, lt))))
          (held.shown slots len shown));
    }

pub returns : goal.returns
returns c = λ slots len shown.
    subst (IsShown c.loop-message.self)
    (ap (λ ms. slots ++ map Some ms) (take_all c.loop-message.message-index c.args.messages.now c.loop-message-test.false))
    (c.loop-message.invariant.shown slots len shown)
