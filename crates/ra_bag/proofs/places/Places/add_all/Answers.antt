use Rattle.std.proofs.Common.{◌++◌, Some, map, refl, sym, ap, ◌∙◌, subst, arith}
use Rattle.std.proofs.lemmas.List.{append-nil, take_all}
use Rattle.ra_stamp.specs.contracts.message.MessagePartialEq.TheImpl.{eq-value}
use Rattle.ra_stamp.proofs.StampLaws.{same_messages}
use Rattle.ra_bag.specs.Places.{Tells}
use Rattle.ra_bag.proofs.Told.{next_message}
use Rattle.ra_bag.proofs.places.Places.add_all.Goals as goal

pub loop-message-init : goal.loop-message-init
loop-message-init c =
    record {
      first = refl;
      number = omega (arith, c.in-Some.ensures.1);
      told = λ slots len tells. subst (Tells eq-value.it c.args.self.now) (sym (append-nil slots)) tells;
    }

pub loop-message-preserved : goal.loop-message-preserved
loop-message-preserved c =
    let ms = c.args.messages.now in
    let i = c.loop-message.message-index in
    let lt = c.loop-message-test.true in
    let held = c.loop-message.invariant in
    let learns = c.in_ok-add.ensures in
    let next = c.in-Some-checked_add.ensures.1 in
    record {
      first = learns.0 ∙ held.first;
      number = omega (arith, held.number, next);
      told = λ slots len tells.
          next_message eq-value.it same_messages c.loop-message.self c.add.new.self i c.message-item.result c.loop-message.number learns ms slots
          (omega (arith, held.number, held.first, len)) lt (sym c.message-item.is) (held.told slots len tells);
    }

pub returns : goal.returns
returns c = λ slots len tells.
    subst (Tells eq-value.it c.loop-message.self)
    (ap (λ ms. slots ++ map Some ms) (take_all c.loop-message.message-index c.args.messages.now c.loop-message-test.false))
    (c.loop-message.invariant.told slots len tells)
