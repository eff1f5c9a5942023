-- What steps send, and which messages are under way after them.
use Rattle.std.specs.Prelude.{List, [], ◌∷◌, ◌++◌, ◌≡◌, Contains}
use Rattle.ra_stamp.specs.declared.message.Message.{Message}
use Rattle.ra_stamp.specs.declared.entry.Mark.{Mark}
use Rattle.ra_bag.specs.Bag.{TakesFirst}
use Rattle.ra_world.specs.declared.step.Step.{Step}
use Rattle.ra_world.specs.declared.step.Step.TheVariants.{Ask, Leave, Cancel, Deliver, Lose, Repeat, Forget}

-- a step, with the messages that it sent and its marks
pub record Move : Type 0 where
  pub step : Step
  pub sends : List Message
  pub marks : List Mark

-- all messages that these steps sent, in order
abbrev pub sent_by : List Move → List Message
sent_by [] = []
sent_by (move ∷ moves) = move.sends ++ sent_by moves

-- the message that a step takes from those under way, if it takes one
abbrev pub taken_in : Step → List Message
taken_in (Ask node client name mode) = []
taken_in (Leave node client name) = []
taken_in (Cancel node client name) = []
taken_in (Deliver message) = message ∷ []
taken_in (Lose message) = message ∷ []
taken_in (Repeat message) = []
taken_in (Forget node) = []

-- all messages that these steps took from those under way, to deliver or lose them, in order
abbrev pub taken_by : List Move → List Message
taken_by [] = []
taken_by (move ∷ moves) = taken_in move.step ++ taken_by moves

-- the message that a step loses, if it loses one
abbrev pub lost_in : Step → List Message
lost_in (Ask node client name mode) = []
lost_in (Leave node client name) = []
lost_in (Cancel node client name) = []
lost_in (Deliver message) = []
lost_in (Lose message) = message ∷ []
lost_in (Repeat message) = []
lost_in (Forget node) = []

-- all messages that these steps lost, in order
abbrev pub lost_by : List Move → List Message
lost_by [] = []
lost_by (move ∷ moves) = lost_in move.step ++ lost_by moves

-- the message that a step repeats, if it repeats one
abbrev pub repeated_in : Step → List Message
repeated_in (Ask node client name mode) = []
repeated_in (Leave node client name) = []
repeated_in (Cancel node client name) = []
repeated_in (Deliver message) = []
repeated_in (Lose message) = []
repeated_in (Repeat message) = message ∷ []
repeated_in (Forget node) = []

-- all messages that these steps repeat, in order
abbrev pub repeated_by : List Move → List Message
repeated_by [] = []
repeated_by (move ∷ moves) = repeated_in move.step ++ repeated_by moves

-- the messages that a move puts under way: those that it sent, and the copy if it is a repeat, which no node sent
abbrev pub put_in : Move → List Message
put_in move = move.sends ++ repeated_in move.step

-- all messages that these steps put under way, in order: those that they sent, and the copies
abbrev pub put_by : List Move → List Message
put_by [] = []
put_by (move ∷ moves) = put_in move ++ put_by moves

-- the new list is the old one without the first equal message for each of these, in order
abbrev pub TakesEach : List Message → List Message → List Message → Type 0
TakesEach old [] new = new ≡ old
TakesEach old (message ∷ messages) new = (next : List Message) × TakesFirst old message next
    × TakesEach next messages new

-- these steps leave these messages under way, in the order in which they were put there: what was sent and the copies,
-- without what was delivered or lost
abbrev pub LeavesUnderWay : List Move → List Message → Type 0
LeavesUnderWay moves left = TakesEach (put_by moves) (taken_by moves) left

-- after these steps the message is under way
abbrev pub IsUnderWay : List Move → Message → Type 0
IsUnderWay moves message = (left : List Message) × LeavesUnderWay moves left × Contains left message
