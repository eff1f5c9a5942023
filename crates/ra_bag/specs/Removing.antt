-- What a bag keeps of its slots, and what is left of them when a message was taken out. No public contract mentions it.
use Rattle.std.specs.Prelude.{◌≡◌, ◌≤◌, ℕ, Bool, List, Option}
use Rattle.std.specs.declared.collections.VecDeque.{VecDeque}
use Rattle.std.specs.VecDeque.{deque_len, deque_capacity}
use Rattle.ra_stamp.specs.declared.message.Message.{Message}
use Rattle.ra_bag.specs.declared.filled.Filled.{Filled}
use Rattle.ra_bag.specs.declared.places.Places.{Places}
use Rattle.ra_bag.specs.Bag.{messages_in, HasEmpty}
use Rattle.ra_bag.specs.Filled.{KeepsShown}
use Rattle.ra_bag.specs.Places.{IsTold}

-- this many of the slots are empty, and what is known of where the messages are is true; `eq` tells whether two messages are equal
pub record AreKept (eq : Message → Message → Bool) (slots : List (Option Message)) (empty : ℕ) (places : Places) (filled : Filled)
    : Type 0 where
  pub count : HasEmpty slots empty
  pub told : IsTold eq places slots
  pub shown : KeepsShown filled slots

-- the slots have these messages, and are no more than before, in the same room
pub record AreLeft {Z : Type 0} (old new : VecDeque (Option Message) Z) (messages : List Message) : Type 0 where
  pub items : messages_in new.items ≡ messages
  pub len : deque_len new ≤ deque_len old
  pub capacity : deque_capacity new ≡ deque_capacity old
