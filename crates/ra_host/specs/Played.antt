-- A node that had the events of a book, with the frames that it sent.
use Rattle.std.specs.Prelude.{◌≡◌, ◌⊎◌, ℕ, ◌-◌, ◌≤◌, true, false, Some, List, All, length, map, slice_get, refl}
use Rattle.std.specs.Coded.{Coded, code_by, coded×, coded_list}
use Rattle.ra_stamp.specs.Message.{to_of}
use Rattle.ra_automaton.specs.State.{IsOtherNode}
use Rattle.ra_frame.specs.declared.frame.Frame.{Frame}
use Rattle.ra_node.specs.declared.outcome.Outcome.{Outcome}
use Rattle.ra_node.specs.Node.{IsConsistentNode, opening_node}
use Rattle.ra_node.specs.Events.{IsForThisNode}
use Rattle.ra_book.specs.declared.book.event.BookKind.{BookKind}
use Rattle.ra_book.specs.declared.error.BookError.TheVariants.{Memory}
use Rattle.ra_book.specs.Book.{Adds, BookState, HasClock, LeadsTo, next_clock, whole_events}
use Rattle.ra_book.specs.History.{clock_of, frames_at, node_event}
use Rattle.ra_book.specs.Pairs.{sent_to}
use Rattle.ra_book.specs.Timed.{Refuses, Takes, Timed}
use Rattle.ra_host.specs.declared.error.EventError.{EventError}
use Rattle.ra_host.specs.declared.error.EventError.TheVariants.{NotNext, Full, Refused}
use Rattle.ra_host.specs.declared.played.Played.TheInside.{Inside}
use Rattle.ra_host.specs.Full.{is_full, most_made}
use Rattle.ra_host.specs.Outgoing.{Outgoing, KeepsOf, outgoing_code, outgoing_of, posts}

-- the node with its clock, and the frames for each host, by number from 1
pub record PlayedState : Type 0 where
  pub timed : Timed
  pub outgoing : List Outgoing

-- it is stored as its fields
abbrev pub played_code : Coded Timed → Coded Frame → Coded PlayedState
played_code timed frame =
    code_by (Timed × List Outgoing) (coded× timed (coded_list (outgoing_code frame))) (λ p. (p.timed, p.outgoing))
    (λ p. record { timed = p.0; outgoing = p.1 }) (λ _. refl)

abbrev pub played_of : Inside → PlayedState
played_of p = record { timed = p.timed; outgoing = map outgoing_of p.outboxes.items }

abbrev pub IsPlayed : Inside → Type 0
IsPlayed p = IsConsistentNode p.timed.node

-- the node had the events of this book, and of each other host these are the frames for it
pub record IsPlayedOf (p : PlayedState) (book : BookState) : Type 0 where
  pub leads : LeadsTo book p.timed.node
  pub clock : clock_of (whole_events book) ≡ p.timed.clock
  pub each : (j : ℕ) → IsOtherNode book.me book.nodes j
      → (o : Outgoing) × (slice_get p.outgoing (j - 1) ≡ Some o) × KeepsOf o (sent_to j book)

-- The event happens at the node with what it sends and marks, and each message is a frame for its receiver, whose number
-- is 1 or more. Numbers are left for the frames, and they are few.
pub record Plays (old : PlayedState) (kind : BookKind) (outcome : Outcome) (new : PlayedState) : Type 0 where
  pub takes : Takes old.timed kind outcome.sends.items outcome.marks.items new.timed
  pub numbers : is_full old.outgoing ≡ false
  pub few : length outcome.sends.items ≤ most_made
  pub receivers : All (λ m. 1 ≤ to_of m) outcome.sends.items
  pub outgoing : new.outgoing ≡ posts old.outgoing (frames_at new.timed.clock outcome.sends.items)

-- a book of the node has this event with what it sent and marked, and then it is one of the node as it is now
pub record GoesOn (old : BookState) (kind : BookKind) (outcome : Outcome) (new : PlayedState) : Type 0 where
  pub for_this_node : IsForThisNode (opening_node old.me old.nodes old.start) (node_event kind)
  pub has_clock : HasClock old kind
  pub book : BookState
  pub adds : Adds old kind (frames_at (next_clock old kind) outcome.sends.items) outcome.marks.items book
  pub is : IsPlayedOf new book

-- why an event is refused: no numbers may be left, memory may run out, or the node refuses it
abbrev pub RefusesEvent : PlayedState → BookKind → EventError → Type 0
RefusesEvent p kind NotNext = ⊥
RefusesEvent p kind Full = is_full p.outgoing ≡ true
RefusesEvent p kind (Refused why) = (is_full p.outgoing ≡ false) × ((why ≡ Memory) ⊎ Refuses p.timed kind why)
