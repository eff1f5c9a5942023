-- Books that fit pair by pair: what came at a node from another one is the first of what the other one sent to it.
use Rattle.std.specs.Prelude.{◌≡◌, ◌≢◌, ◌==◌, ℕ, false, List, ◌++◌, map, length, drop, All, Contains}
use Rattle.std.specs.List.{Any, filter}
use Rattle.ra_stamp.specs.declared.message.Message.{Message}
use Rattle.ra_stamp.specs.Message.{from_of, to_of}
use Rattle.ra_frame.specs.declared.frame.Frame.{Frame}
use Rattle.ra_book.specs.Book.{BookState}
use Rattle.ra_book.specs.Settled.{received_among}

-- the frames that this book's node sent to node i, in order
abbrev pub sent_to : ℕ → BookState → List Frame
sent_to i book = filter (λ f. to_of f.message == i) (map (λ s. s.frame) book.sent)

-- the frames that came at this book's node from node j, in order
abbrev pub come_from : ℕ → BookState → List Frame
come_from j book = filter (λ f. from_of f.message == j) (received_among book.events)

-- these are the first of all those, in order; there may be more
abbrev pub AreFirstOf : List Frame → List Frame → Type 0
AreFirstOf first all = (more : List Frame) × (all ≡ first ++ more)

-- For any two different nodes, the frames that came at one from the other are the first ones that the other one sent to
-- it, in order. No frame is flagged lost.
pub record PairsFit (books : List BookState) : Type 0 where
  pub in_order : All (λ at. All (λ other. at.me ≢ other.me → AreFirstOf (come_from other.me at) (sent_to at.me other))
      books) books
  pub none_lost : All (λ b. All (λ s. s.lost ≡ false) b.sent) books

-- the frames that the other book's node sent to this book's node and that have not come there, if those that came are
-- the first ones
abbrev pub not_come : BookState → BookState → List Frame
not_come other at = drop (length (come_from other.me at)) (sent_to at.me other)

-- one of the nodes sent a frame with this message to another one, and it has not come there
abbrev pub HasNotCome : List BookState → Message → Type 0
HasNotCome books message = Any (λ at. Any (λ other. (at.me ≢ other.me)
    × Contains (map (λ f. f.message) (not_come other at)) message) books) books

-- For any two different nodes, the frames that came at one from the other are all those that the other one sent to it,
-- in order.
abbrev pub AllHasCome : List BookState → Type 0
AllHasCome books =
    All (λ at. All (λ other. at.me ≢ other.me → come_from other.me at ≡ sent_to at.me other) books) books
