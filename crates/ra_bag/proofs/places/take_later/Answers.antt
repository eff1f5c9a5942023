use Rattle.std.proofs.Common.{refl, sym, ap, ◌∙◌, eq-eqb}
use Rattle.std.specs.Option.{is_some}
use Rattle.std.specs.Map.{lookup}
use Rattle.std.specs.VecDeque.{deque_items}
use Rattle.std.proofs.lemmas.Bool.{false≢true, eqb-true}
use Rattle.ra_stamp.specs.contracts.message.MessagePartialEq.TheImpl.{eq-value}
use Rattle.ra_bag.proofs.Calls.{at_none, is_empty, none_taken, next_taken, last_taken}
use Rattle.ra_bag.proofs.places.take_later.Goals as goal

-- ---- No message has later numbers

pub returns-then-is_empty-clause-taken : goal.returns-then-is_empty-clause-taken
returns-then-is_empty-clause-taken c = refl

pub returns-then-is_empty-clause-none : goal.returns-then-is_empty-clause-none
returns-then-is_empty-clause-none c = λ _. ap (lookup (eq-value.it c.args.message.now)) (is_empty c.args.later.now.entries _ refl (c.if-is_empty.ensures.0 refl))

pub returns-then-is_empty-clause-others : goal.returns-then-is_empty-clause-others
returns-then-is_empty-clause-others c = λ other apart. refl

-- ---- This one has none

pub returns-in_err-queue-clause-taken : goal.returns-in_err-queue-clause-taken
returns-in_err-queue-clause-taken c =
    none_taken deque_items _ _ c.from_residual.result c.from_residual.ensures (ap (λ m. lookup (eq-value.it c.args.message.now) m.entries) c.get_mut.follows.holds-at-none)

pub returns-in_err-queue-clause-none : goal.returns-in_err-queue-clause-none
returns-in_err-queue-clause-none c = λ _.
    ap (λ m. lookup (eq-value.it c.args.message.now) m.entries) c.get_mut.follows.holds-at-none ∙ sym c.in_err-queue.ensures.value

pub returns-in_err-queue-clause-others : goal.returns-in_err-queue-clause-others
returns-in_err-queue-clause-others c = λ other apart. ap (λ m. lookup (eq-value.it other) m.entries) c.get_mut.follows.holds-at-none

-- ---- The last one is taken

pub returns-then-is_last-clause-taken : goal.returns-then-is_last-clause-taken
returns-then-is_last-clause-taken c =
    let rest = c.pop_front-next.new.self in
    last_taken deque_items _ _ c.pop_front-next.result c.in_ok-queue.queue.now rest.items c.in_ok-queue.ensures.value c.swap_remove.ensures.updates.1
    c.pop_front-next.ensures.items (is_empty rest.items _ rest.ok.0 (eqb-true _ 0 (sym c.if-is_last.ensures)))

pub returns-then-is_last-clause-none : goal.returns-then-is_last-clause-none
returns-then-is_last-clause-none c = λ _. c.swap_remove.ensures.updates.1

pub returns-then-is_last-clause-others : goal.returns-then-is_last-clause-others
returns-then-is_last-clause-others c = λ other apart.
    c.swap_remove.ensures.updates.2 other apart
    ∙ ((c.get_mut.follows.holds c.pop_front-next.new.self).3 (ap is_some (sym c.in_ok-queue.ensures.value))).2 other apart

-- ---- One of several is taken

pub returns-else-is_last-clause-taken : goal.returns-else-is_last-clause-taken
returns-else-is_last-clause-taken c =
    let rest = c.pop_front-next.new.self in
    next_taken deque_items _ _ c.pop_front-next.result c.in_ok-queue.queue.now rest c.in_ok-queue.ensures.value
    ((c.get_mut.follows.holds rest).3 (ap is_some (sym c.in_ok-queue.ensures.value))).1 c.pop_front-next.ensures.items

pub returns-else-is_last-clause-none : goal.returns-else-is_last-clause-none
returns-else-is_last-clause-none c = λ none.
    absurd (false≢true (c.if-is_last.ensures ∙ eq-eqb _ 0 (at_none _ c.pop_front-next.result none c.pop_front-next.ensures.cases).1))

pub returns-else-is_last-clause-others : goal.returns-else-is_last-clause-others
returns-else-is_last-clause-others c = λ other apart.
    ((c.get_mut.follows.holds c.pop_front-next.new.self).3 (ap is_some (sym c.in_ok-queue.ensures.value))).2 other apart
