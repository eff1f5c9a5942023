use Rattle.std.proofs.Common.{◌≡◌, ◌++◌, List, length, Option, Some, map, refl, sym, ap, ◌∙◌, subst}
use Rattle.std.proofs.lemmas.Bool.{false≢true}
use Rattle.std.proofs.lemmas.Result.{IfOk-from_err, MatchResult-from_err}
use Rattle.ra_stamp.specs.declared.message.Message.{Message}
use Rattle.ra_stamp.specs.Sequence.{Listed}
use Rattle.ra_stamp.specs.contracts.message.MessagePartialEq.TheImpl.{eq-value}
use Rattle.ra_bag.specs.Bag.{messages_in, HasEmpty, FewEmpty}
use Rattle.ra_bag.specs.Filled.{KeepsShown}
use Rattle.ra_bag.specs.Places.{IsTold}
use Rattle.ra_bag.proofs.Emptied.{put_behind, count_behind, few_behind}
use Rattle.ra_bag.proofs.Calls.{fits_in, same_room, less_room, grown, same_listed}
use Rattle.ra_bag.proofs.bag.Bag.put.Goals as goal

-- ---- There is no memory for them

pub invariant_of-self : goal.invariant_of-self
invariant_of-self c =
    let w = c.self.inside in
    subst (λ (l : List (Option Message)). HasEmpty l w.empty × FewEmpty l w.empty × IsTold eq-value.it w.places l × KeepsShown w.filled l)
    (sym c.in_err-make_room.ensures.same) c.self.invariant

pub returns-in_err-make_room-clause-ok : goal.returns-in_err-make_room-clause-ok
returns-in_err-make_room-clause-ok c = IfOk-from_err c.from_residual.result _ c.from_residual.ensures.0

pub returns-in_err-make_room-clause-err : goal.returns-in_err-make_room-clause-err
returns-in_err-make_room-clause-err c =
    let w = c.self.inside in
    let room = c.make_room.new.slots in
    let e = c.in_err-make_room.ensures in
    MatchResult-from_err c.from_residual.result _ _ c.from_residual.ensures.0 (λ _.
    same_listed _ _ _ _ (ap messages_in e.same) (same_room _ _ _ _ _ _ w.slots.ok.0 room.ok.0 (ap length e.same) e.err) ∙ c.self.view_is)

pub returns-in_err-make_room-clause-succeeds : goal.returns-in_err-make_room-clause-succeeds
returns-in_err-make_room-clause-succeeds c = λ few.
    let w = c.self.inside in
    absurd (false≢true (c.in_err-make_room.ensures.succeeds (fits_in _ _ _ _ w.slots.small.1 (ap (λ (b : Listed Message). b.spare) c.self.view_is) few)))

pub returns-in_err-make_room-clause-spare : goal.returns-in_err-make_room-clause-spare
returns-in_err-make_room-clause-spare c = λ few.
    let w = c.self.inside in
    absurd (false≢true (c.in_err-make_room.ensures.succeeds (fits_in _ _ _ _ w.slots.small.1 (ap (λ (b : Listed Message). b.spare) c.self.view_is) few)))

-- ---- They are put under way

pub learn_if_wanted-requires : goal.learn_if_wanted-requires
learn_if_wanted-requires c = subst (IsTold eq-value.it c.self.inside.places) (sym c.in_ok-make_room.ensures.same) c.self.invariant.2

pub learn_if_wanted-requires-2 : goal.learn_if_wanted-requires-2
learn_if_wanted-requires-2 c = subst (KeepsShown c.self.inside.filled) (sym c.in_ok-make_room.ensures.same) c.self.invariant.3

pub append-requires : goal.append-requires
append-requires c = c.in_ok-make_room.ensures.ok

pub invariant_of-self-2 : goal.invariant_of-self-2
invariant_of-self-2 c =
    let w = c.self.inside in
    let ms = c.args.messages.now in
    let room = c.make_room.new.slots in
    let kept = c.in_ok-make_room.ensures.same in
    let slots = c.append.ensures.items ∙ ap (λ (l : List (Option Message)). l ++ map Some ms) kept in
    let len : length w.slots.items ≡ c.len.result = sym (c.len.ensures ∙ (room.ok.0 ∙ ap length kept)) in
    let again : length w.slots.items ≡ c.len-2.result = sym (c.len-2.ensures ∙ (room.ok.0 ∙ ap length kept)) in
    let told = subst (λ (l : List (Option Message)). IsTold eq-value.it c.learn_if_wanted.new.self l) kept c.learn_if_wanted.ensures in
    let shown = subst (KeepsShown c.learn_if_wanted-2.new.self) kept c.learn_if_wanted-2.ensures in
    subst (λ (l : List (Option Message)). HasEmpty l w.empty × FewEmpty l w.empty × IsTold eq-value.it c.follow.new.self l × KeepsShown c.follow-2.new.self l) (sym slots) (
      count_behind w.slots.items ms w.empty c.self.invariant.0,
      few_behind w.slots.items ms w.empty c.self.invariant.1,
      c.follow.ensures w.slots.items len told,
      c.follow-2.ensures w.slots.items again shown,
    )

pub returns-clause-ok : goal.returns-clause-ok
returns-clause-ok c =
    let w = c.self.inside in
    let ms = c.args.messages.now in
    let slots : c.append.new.slots.items ≡ w.slots.items ++ map Some ms =
    c.append.ensures.items ∙ ap (λ (l : List (Option Message)). l ++ map Some ms) c.in_ok-make_room.ensures.same in
    ap messages_in slots ∙ put_behind w.slots.items ms ∙ ap (λ (b : Listed Message). b.items ++ ms) c.self.view_is

pub returns-clause-succeeds : goal.returns-clause-succeeds
returns-clause-succeeds c = λ _. refl

pub returns-clause-spare : goal.returns-clause-spare
returns-clause-spare c = λ few.
    let w = c.self.inside in
    let items = c.append.ensures.items ∙ ap (λ (l : List (Option Message)). l ++ map Some c.args.messages.now) c.in_ok-make_room.ensures.same in
    less_room _ _ _ _ _ _ _ w.slots.small.1 (ap (λ (b : Listed Message). b.spare) c.self.view_is) few c.in_ok-make_room.ensures.enough c.append.ensures.capacity
    (grown w.slots.items c.append.new.slots.items c.args.messages.now _ _ items w.slots.ok.0 c.append.new.slots.ok.0)
