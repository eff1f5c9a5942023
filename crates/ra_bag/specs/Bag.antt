-- The bag: the messages under way, in the order in which they were sent. It may contain equal messages.
use Rattle.std.specs.Prelude.{◌≡◌, ◌≢◌, ◌<◌, ◌≤◌, ◌+◌, ◌*◌, ℕ, List, ◌∷◌, ◌++◌, Option, Some, None, All, length, take, slice_get, slice_index_or}
use Rattle.std.specs.List.{filter_map, remove}
use Rattle.ra_stamp.specs.declared.message.Message.{Message}

-- the new list is the old one without the first message that is equal to this one
pub record TakesFirst (old : List Message) (message : Message) (new : List Message) : Type 0 where
  pub prefix : List Message
  pub suffix : List Message
  pub old_is : old ≡ prefix ++ message ∷ suffix
  pub first : All (λ m. m ≢ message) prefix
  pub new_is : new ≡ prefix ++ suffix

-- the new list is the old one without one message that is equal to this one, at any place
abbrev pub TakesOne : List Message → Message → List Message → Type 0
TakesOne old message new = (place : ℕ) × (place < length old) × (slice_index_or old place message ≡ message) × (new ≡ remove old place)

-- the new list is the old one without the message at this place
abbrev pub TakesAt : List Message → ℕ → List Message → Type 0
TakesAt old place new = new ≡ remove old place

-- ---- How a bag is kept: in slots that may be empty

-- this slot contains the message
abbrev pub StandsIn : List (Option Message) → Message → ℕ → Type 0
StandsIn slots message slot = (slot < length slots) × (slice_index_or slots slot (Some message) ≡ Some message)

-- the messages in the slots, in order
abbrev pub messages_in : List (Option Message) → List Message
messages_in slots = filter_map (λ slot. slot) slots

-- the slot contains the message at this place, or there is no such place and no such slot
abbrev pub IsSlotAt : List (Option Message) → ℕ → ℕ → Type 0
IsSlotAt slots place slot =
    (slice_index_or slots slot None ≡ slice_get (messages_in slots) place)
    × (slot < length slots → length (messages_in (take slot slots)) ≡ place)

-- this many of the slots are empty
abbrev pub HasEmpty : List (Option Message) → ℕ → Type 0
HasEmpty slots empty = length (messages_in slots) + empty ≡ length slots

-- this number of empty slots is at most three times the number of slots that contain a message
abbrev pub FewEmpty : List (Option Message) → ℕ → Type 0
FewEmpty slots empty = empty ≤ 3 * length (messages_in slots)
