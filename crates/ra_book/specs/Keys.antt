-- Requests, messages and frames as keys for looking them up: their fields, with the mode as a number. No public
-- contract speaks of them.
use Rattle.std.specs.Prelude.{◌↔◌, ◌≢◌, ℕ, List, [], ◌∷◌, map, AllPairs, Contains}
use Rattle.std.specs.BTreeSet.{BTreeSet}
use Rattle.ra_stamp.specs.declared.mode.Mode.{Mode}
use Rattle.ra_stamp.specs.declared.mode.Mode.TheVariants.{Shared, Exclusive, IntentShared, IntentExclusive, SharedIntentExclusive}
use Rattle.ra_stamp.specs.declared.entry.Entry.{Entry}
use Rattle.ra_stamp.specs.declared.entry.Mark.{Mark}
use Rattle.ra_stamp.specs.declared.entry.Mark.TheVariants.{Requested, Entered, Left, Withdrawn}
use Rattle.ra_stamp.specs.declared.message.Message.{Message}
use Rattle.ra_stamp.specs.declared.message.Message.TheVariants.{Request, Reply}
use Rattle.ra_frame.specs.declared.frame.Frame.{Frame}
use Rattle.ra_book.specs.declared.book.event.BookEvent.{BookEvent}
use Rattle.ra_book.specs.Settled.{received_among}

-- All of a request or of a message: its number, the node that asks or sends, the client that asks or the node that is
-- to get it, the number of the mode, and the name.
abbrev pub OrderKey : Type 0
OrderKey = ℕ × ℕ × ℕ × ℕ × List ℕ

-- all of a frame: its clock, and the key of its message
abbrev pub FrameKey : Type 0
FrameKey = ℕ × OrderKey

-- the number of a mode in a key, 1 to 5
abbrev pub mode_number : Mode → ℕ
mode_number Shared = 1
mode_number Exclusive = 2
mode_number IntentShared = 3
mode_number IntentExclusive = 4
mode_number SharedIntentExclusive = 5

-- the key of a request
abbrev pub entry_key : Entry → OrderKey
entry_key entry = (entry.stamp.seq, entry.stamp.node, entry.client, mode_number entry.mode, entry.name)

-- the key of a message; the mode of a REPLY is 0 in it
abbrev pub message_key : Message → OrderKey
message_key (Request from to name mode seq) = (seq, from, to, mode_number mode, name)
message_key (Reply from to name seq) = (seq, from, to, 0, name)

-- the key of a frame
abbrev pub frame_key : Frame → FrameKey
frame_key frame = (frame.clock, message_key frame.message)

-- the set has the keys of the list, and no others
abbrev pub HasKeys : {K : Type 0} → BTreeSet K → List K → Type 0
HasKeys {K} set list = (key : K) → Contains set.keys key ↔ Contains list key

-- the requests that are granted by these marks
abbrev pub entered_in : List Mark → List Entry
entered_in [] = []
entered_in (Requested entry ∷ marks) = entered_in marks
entered_in (Entered entry ∷ marks) = entry ∷ entered_in marks
entered_in (Left entry ∷ marks) = entered_in marks
entered_in (Withdrawn entry ∷ marks) = entered_in marks

-- the messages that came in these events, in order
abbrev pub messages_among : List BookEvent → List Message
messages_among events = map (λ f. f.message) (received_among events)

-- the set has the keys of these messages and no others, and no two of the messages are equal
abbrev pub HasEach : BTreeSet OrderKey → List Message → Type 0
HasEach set messages = HasKeys set (map (λ m. message_key m) messages) × AllPairs (λ a b. a ≢ b) messages
