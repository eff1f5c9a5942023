use Rattle.std.proofs.Common.{List, Contains, refl, sym, ap, subst, true≢false}
use Rattle.ra_stamp.specs.declared.message.Message.{Message}
use Rattle.ra_stamp.specs.Sequence.{Listed}
use Rattle.ra_bag.specs.Bag.{TakesFirst, messages_in}
use Rattle.ra_bag.proofs.Emptied.{takes_first, same_spare, more_spare, of_none, none_is_none}
use Rattle.ra_bag.proofs.bag.Bag.take.Goals as goal

pub returns-clause-taken : goal.returns-clause-taken
returns-clause-taken c =
    let slots = c.self.inside.slots.items in
    let message = c.args.message.now in
    let first = c.in_ok-first.ensures.first in (
      refl,
      subst (λ (old : List Message). TakesFirst old message (messages_in c.remove.new.slots.items)) (ap (λ (b : Listed Message). b.items) c.self.view_is)
          (takes_first slots c.in_ok-first.first message (messages_in c.remove.new.slots.items) first.0.0 first.0.1 first.1 c.remove.ensures.left.items),
    )

pub returns-clause-none : goal.returns-clause-none
returns-clause-none c =
    let there : Contains c.args.self.now.items c.args.message.now =
    subst (λ (ms : List Message). Contains ms c.args.message.now) (ap (λ (b : Listed Message). b.items) c.self.view_is) (c.in_ok-first.ensures.some.0 refl) in
    (λ e. absurd (true≢false e), λ none. absurd (none there))

pub returns-clause-left : goal.returns-clause-left
returns-clause-left c = λ none. absurd (true≢false none)

pub returns-clause-spare : goal.returns-clause-spare
returns-clause-spare c = more_spare _ _ _ _ _ (ap (λ (b : Listed Message). b.spare) c.self.view_is) c.remove.ensures.left.capacity c.remove.ensures.left.len

-- ---- There is no such message

pub returns-in_err-first-clause-taken : goal.returns-in_err-first-clause-taken
returns-in_err-first-clause-taken c = of_none _ c.from_residual.result c.from_residual.ensures

pub returns-in_err-first-clause-none : goal.returns-in_err-first-clause-none
returns-in_err-first-clause-none c =
    none_is_none c.from_residual.result c.from_residual.ensures
    (subst (λ (ms : List Message). Contains ms c.args.message.now → ⊥) (ap (λ (b : Listed Message). b.items) c.self.view_is)
    (λ there. true≢false (sym (c.in_err-first.ensures.some.1 there))))

pub returns-in_err-first-clause-left : goal.returns-in_err-first-clause-left
returns-in_err-first-clause-left c = λ _. c.self.view_is

pub returns-in_err-first-clause-spare : goal.returns-in_err-first-clause-spare
returns-in_err-first-clause-spare c = same_spare _ _ _ (ap (λ (b : Listed Message). b.spare) c.self.view_is)

-- ---- What is kept

pub first_of-requires-clause-told : goal.first_of-requires-clause-told
first_of-requires-clause-told c = c.self.invariant.2

pub first_of-requires-clause-shown : goal.first_of-requires-clause-shown
first_of-requires-clause-shown c = c.self.invariant.3

pub remove-requires-clause-kept : goal.remove-requires-clause-kept
remove-requires-clause-kept c = record { count = c.self.invariant.0; told = c.first_of.ensures.told; shown = c.first_of.ensures.shown }

pub remove-requires-clause-there : goal.remove-requires-clause-there
remove-requires-clause-there c = c.in_ok-first.ensures.first.0

pub invariant_of-self : goal.invariant_of-self
invariant_of-self c = (c.self.invariant.0, c.self.invariant.1, c.first_of.ensures.told, c.first_of.ensures.shown)

pub invariant_of-self-2 : goal.invariant_of-self-2
invariant_of-self-2 c = (c.remove.ensures.kept.count, c.remove.ensures.few, c.remove.ensures.kept.told, c.remove.ensures.kept.shown)
