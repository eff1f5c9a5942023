use Rattle.std.proofs.Common.{◌++◌, ◌∷◌, [], Option, take, sym, ap, ◌∙◌, subst}
use Rattle.std.proofs.lemmas.List.{take_more, take_all}
use Rattle.std.proofs.lemmas.Result.{IfOk-from_err}
use Rattle.ra_stamp.specs.declared.message.Message.{Message}
use Rattle.ra_bag.specs.Filled.{IsShown}
use Rattle.ra_bag.proofs.Calls.{inside, taken_len, all_in}
use Rattle.ra_bag.proofs.Counts.{none_shown}
use Rattle.ra_bag.proofs.filled.Filled.learn_all.Goals as goal

pub loop-slot-init : goal.loop-slot-init
loop-slot-init c = none_shown c.args.self.now c.requires.small c.requires.middle c.requires.large c.requires.gone c.requires.noted

pub returns-in_err-add : goal.returns-in_err-add
returns-in_err-add c = IfOk-from_err c.from_residual.result _ c.from_residual.ensures.0

pub loop-slot-preserved : goal.loop-slot-preserved
loop-slot-preserved c =
    let slots = c.args.slots.now.items in
    let i = c.loop-slot.slot in
    let lt = inside i _ _ slots c.loop-slot-test.true c.len-slot-end.ensures c.args.slots.now.ok.0 in
    subst (IsShown c.add.new.self)
    (sym (take_more slots i c.index.result.now lt ∙ ap (λ (x : Option Message). take i slots ++ x ∷ []) (sym c.index.ensures)))
    (c.in_ok-add.ensures (take i slots) (taken_len i slots lt) c.loop-slot.invariant)

pub returns : goal.returns
returns c =
    let slots = c.args.slots.now.items in
    subst (IsShown c.loop-slot.self) (take_all c.loop-slot.slot slots (all_in _ _ _ slots c.loop-slot-test.false c.len-slot-end.ensures c.args.slots.now.ok.0)) c.loop-slot.invariant
