-- What a bag knows of where its messages are: the numbers of the slots that contain each message. No public contract
-- mentions it.
use Rattle.std.specs.Prelude.{◌≡◌, ◌≢◌, ◌<◌, ◌+◌, ℕ, Bool, false, if◌then◌else◌, List, [], ◌∷◌, ◌++◌, Option, Some, None, length, slice_index_or}
use Rattle.std.specs.Map.{lookup}
use Rattle.std.specs.VecDeque.{deque_items}
use Rattle.ra_stamp.specs.declared.message.Message.{Message}
use Rattle.ra_bag.specs.declared.places.Places.{Places}
use Rattle.ra_bag.specs.Bag.{StandsIn}

-- this slot contains the message, and no slot before it does
abbrev pub IsFirstSlot : List (Option Message) → Message → ℕ → Type 0
IsFirstSlot slots message slot =
    StandsIn slots message slot × ((k : ℕ) → k < slot → slice_index_or slots k (Some message) ≢ Some message)

-- the numbers of the slots whose messages pass a test, in order, if the first slot has this number
abbrev pub numbers_of : (Message → Bool) → ℕ → List (Option Message) → List ℕ
numbers_of test first [] = []
numbers_of test first (None ∷ slots) = numbers_of test (first + 1) slots
numbers_of test first (Some message ∷ slots) =
    if test message then first ∷ numbers_of test (first + 1) slots else numbers_of test (first + 1) slots

-- the items of a queue, if it exists
abbrev pub later_numbers : {Q : Type 0} → (Q → List ℕ) → Option Q → List ℕ
later_numbers items None = []
later_numbers items (Some queue) = items queue

-- the first of the numbers is kept by itself, and any others are in a queue
abbrev pub AreKept : {Q : Type 0} → (Q → List ℕ) → Option ℕ → Option Q → List ℕ → Type 0
AreKept items None None numbers = numbers ≡ []
AreKept items None (Some queue) numbers = ⊥
AreKept items (Some number) queue numbers = numbers ≡ number ∷ later_numbers items queue

-- Below, `eq` tells whether two messages are equal.

-- the places have these numbers for the message
abbrev pub Has : (Message → Message → Bool) → Places → Message → List ℕ → Type 0
Has eq places message numbers =
    AreKept deque_items (lookup (eq message) places.numbers.entries) (lookup (eq message) places.later.entries) numbers

-- the places have, for each message, the numbers of its slots
abbrev pub Tells : (Message → Message → Bool) → Places → List (Option Message) → Type 0
Tells eq places slots = (message : Message) → Has eq places message (numbers_of (eq message) places.first slots)

-- if the places have anything, they have the numbers of the slots of each message
abbrev pub IsTold : (Message → Message → Bool) → Places → List (Option Message) → Type 0
IsTold eq places slots = length places.numbers.entries ≢ 0 → Tells eq places slots

-- for each message but this one, the places have what they had before
abbrev pub KeepsOthers : (Message → Message → Bool) → Places → Message → Places → Type 0
KeepsOthers eq old message new =
    (other : Message) (numbers : List ℕ) → eq message other ≡ false → Has eq old other numbers → Has eq new other numbers

-- the message has one more number, after those that it had, and all other messages keep theirs
abbrev pub Learns : (Message → Message → Bool) → Places → Message → ℕ → Places → Type 0
Learns eq old message number new =
    (new.first ≡ old.first) × KeepsOthers eq old message new
    × ((numbers : List ℕ) → Has eq old message numbers → Has eq new message (numbers ++ number ∷ []))

-- the message loses its first number, which was this one, and all other messages keep theirs
abbrev pub Unlearns : (Message → Message → Bool) → Places → Message → ℕ → Places → Type 0
Unlearns eq old message number new =
    (new.first ≡ old.first) × KeepsOthers eq old message new
    × ((numbers : List ℕ) → Has eq old message numbers
    → (rest : List ℕ) × (numbers ≡ number ∷ rest) × Has eq new message rest)
