use Rattle.std.proofs.Common.{List, Option, sym, ap, ◌∙◌, subst}
use Rattle.std.proofs.lemmas.Result.{IfOk-from_err}
use Rattle.ra_stamp.specs.declared.message.Message.{Message}
use Rattle.ra_stamp.specs.Sequence.{Listed}
use Rattle.ra_stamp.specs.contracts.message.MessagePartialEq.TheImpl.{eq-value}
use Rattle.ra_bag.specs.Bag.{messages_in, HasEmpty, FewEmpty}
use Rattle.ra_bag.specs.Filled.{KeepsShown}
use Rattle.ra_bag.specs.Places.{IsTold}
use Rattle.ra_bag.proofs.bag.Bag.reserve.Goals as goal

pub invariant_of-self : goal.invariant_of-self
invariant_of-self c =
    let w = c.self.inside in
    subst (λ (l : List (Option Message)). HasEmpty l w.empty × FewEmpty l w.empty × IsTold eq-value.it w.places l × KeepsShown w.filled l)
    (sym c.in_err-reserve.ensures.items) c.self.invariant

pub returns-in_err-reserve-clause-same : goal.returns-in_err-reserve-clause-same
returns-in_err-reserve-clause-same c = ap messages_in c.in_err-reserve.ensures.items ∙ ap (λ (b : Listed Message). b.items) c.self.view_is

pub returns-in_err-reserve-clause-ok : goal.returns-in_err-reserve-clause-ok
returns-in_err-reserve-clause-ok c = IfOk-from_err c.from_residual.result _ c.from_residual.ensures.0

pub learn_if_wanted-requires : goal.learn_if_wanted-requires
learn_if_wanted-requires c = subst (IsTold eq-value.it c.self.inside.places) (sym c.in_ok-reserve.ensures.items) c.self.invariant.2

pub learn_if_wanted-requires-2 : goal.learn_if_wanted-requires-2
learn_if_wanted-requires-2 c = subst (KeepsShown c.self.inside.filled) (sym c.in_ok-reserve.ensures.items) c.self.invariant.3

pub invariant_of-self-2 : goal.invariant_of-self-2
invariant_of-self-2 c =
    let w = c.self.inside in
    let same = sym c.in_ok-reserve.ensures.items in (
      subst (λ (l : List (Option Message)). HasEmpty l w.empty) same c.self.invariant.0,
      subst (λ (l : List (Option Message)). FewEmpty l w.empty) same c.self.invariant.1,
      c.learn_if_wanted.ensures,
      c.learn_if_wanted-2.ensures,
    )

pub returns-clause-same : goal.returns-clause-same
returns-clause-same c = ap messages_in c.in_ok-reserve.ensures.items ∙ ap (λ (b : Listed Message). b.items) c.self.view_is
