use Rattle.std.proofs.Common.{◌≡◌, ◌∷◌, [], ◌++◌, sym, ap, ◌∙◌, subst}
use Rattle.std.specs.Prelude.{IfSome}
use Rattle.std.specs.Map.{lookup}
use Rattle.std.specs.VecDeque.{deque_items}
use Rattle.ra_stamp.specs.contracts.message.MessagePartialEq.TheImpl.{eq-value}
use Rattle.ra_bag.specs.Places.{later_numbers}
use Rattle.ra_bag.proofs.Calls.{not_none}
use Rattle.ra_bag.proofs.places.add_later.Goals as goal
use Rattle.ra_bag.proofs.places.add_later.Goals.{in-Some, in-None}

pub returns-clause-added : goal.returns-clause-added
returns-clause-added c =
    let before = lookup (eq-value.it c.args.message.now) c.args.later.now.entries in
    let had : c.match-swap_remove.queue.items ≡ later_numbers deque_items before = elim c.match-swap_remove.branch [
      | in-Some w ↦ ap (λ q. q.items) w.queue-is ∙ ap (later_numbers deque_items) (sym w.in-Some.is ∙ c.swap_remove.ensures.value)
      | in-None w ↦ ap (λ q. q.items) w.queue-is ∙ (w.new-queue.ensures.items ∙ ap (later_numbers deque_items) (sym w.in-None.is ∙ c.swap_remove.ensures.value))
    ] in
    subst (λ o. IfSome o (λ queue. queue.items ≡ later_numbers deque_items before ++ c.args.number ∷ [])) (sym c.in_ok-insert.ensures.updates.1)
    (c.in_ok-push_back.ensures.items ∙ ap (λ l. l ++ c.args.number ∷ []) had)

pub returns-clause-some : goal.returns-clause-some
returns-clause-some c = not_none _ _ c.in_ok-insert.ensures.updates.1

pub returns-clause-others : goal.returns-clause-others
returns-clause-others c = λ other apart. c.in_ok-insert.ensures.updates.2 other apart ∙ c.swap_remove.ensures.updates.2 other apart
