use Rattle.std.proofs.Common.{◌-◌, List, drop, length, reverse, refl, subst}
use Rattle.ra_book.specs.declared.settle_books.event_merge.PlacedEvent.{PlacedEvent}
use Rattle.ra_book.specs.EventMerge.{all_placed_at}
use Rattle.ra_book.specs.Repeats.{AreWithCopies}
use Rattle.ra_book.proofs.CopiesBack.{one_done, all_done, none_done}
use Rattle.ra_book.proofs.settle_books.copies.steps_back.Goals as goal

pub loop-turn-preserved : goal.loop-turn-preserved
loop-turn-preserved c =
    let events = c.as_slice-events.result.now in
    let turn = c.loop-turn.turn in
    one_done events turn (length events - 1 - turn) c.index-events-events.result c.push_back.new.later c.push_back.new.back.items c.loop-turn-test.true refl c.index-events-events.is
    (c.in_ok-push_back.ensures (all_placed_at (drop (length events - turn) events)) c.loop-turn.invariant.0 c.loop-turn.invariant.1)

pub returns : goal.returns
returns c =
    let events = c.as_slice-events.result.now in (
      all_placed_at c.in_ok-placed.placed.items,
      c.in_ok-placed.ensures,
      subst (λ (es : List PlacedEvent). AreWithCopies (all_placed_at es) (reverse c.loop-turn.back.items)) c.as_slice-events.ensures
          (all_done events c.loop-turn.turn c.loop-turn.later c.loop-turn.back.items c.loop-turn-test.false c.loop-turn.invariant),
    )

pub loop-turn-init : goal.loop-turn-init
loop-turn-init c = none_done c.as_slice-events.result.now c.new-later.result c.new-back.result.items c.new-later.ensures.empty c.new-back.ensures.items
