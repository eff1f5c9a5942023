use Rattle.std.proofs.Common.{refl, sym, ◌∙◌}
use Rattle.std.specs.Map.{lookup}
use Rattle.std.specs.VecDeque.{deque_items}
use Rattle.ra_stamp.specs.contracts.message.MessagePartialEq.TheImpl.{eq-value}
use Rattle.ra_bag.proofs.Calls.{later_added}
use Rattle.ra_bag.proofs.Told.{kept_same, learns_first, learns_later}
use Rattle.ra_bag.proofs.places.Places.add.Goals as goal

-- a slot after the first one
pub returns-in_ok-add_later : goal.returns-in_ok-add_later
returns-in_ok-add_later c =
    let put = c.in_ok-first.ensures.updates in
    let back = c.in_ok-insert.ensures.updates in
    let added = c.in_ok-add_later.ensures in (
      refl,
      λ other numbers differ kept. kept_same deque_items _ _ _ _ numbers (back.2 other differ ∙ put.2 other differ) (added.others other differ) kept,
      λ numbers kept.
          learns_later deque_items _ _ _ _ numbers c.in-Some.first c.args.number (sym c.in_ok-first.ensures.old ∙ c.in-Some.is) back.1
          (later_added deque_items _ _ added.some added.added) kept,
    )

-- the first slot
pub returns-in_default : goal.returns-in_default
returns-in_default c =
    let put = c.in_ok-first.ensures.updates in
    let later = c.args.self.now.later.entries in (
      refl,
      λ other numbers differ kept. kept_same deque_items _ _ (lookup (eq-value.it other) later) (lookup (eq-value.it other) later) numbers (put.2 other differ) refl kept,
      λ numbers kept.
          let queue = lookup (eq-value.it c.args.message.now) later in
          learns_first deque_items _ _ queue queue numbers c.args.number (sym c.in_ok-first.ensures.old ∙ c.in_default.is) put.1 refl kept,
    )
