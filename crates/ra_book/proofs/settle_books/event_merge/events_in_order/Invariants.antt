use Rattle.std.proofs.Common.{◌≡◌, List}
use Rattle.ra_book.specs.EventMerge.{AreNext, all_placed_at, taken_of}
use Rattle.ra_book.specs.Settled.{Placed}
use Rattle.ra_book.proofs.Merging.{Merges, left}
use Rattle.ra_book.proofs.settle_books.event_merge.events_in_order.Given as goal

-- the events that are taken
abbrev pub invariant-loop-turn : goal.invariant-loop-turn
invariant-loop-turn l = (placed : List Placed) × (all_placed_at l.events.items ≡ placed) × Merges l.books (taken_of l.nexts.items) placed
    × AreNext l.books l.nexts.items

abbrev pub decreases-loop-turn : goal.decreases-loop-turn
decreases-loop-turn l = left l.books (taken_of l.nexts.items)
