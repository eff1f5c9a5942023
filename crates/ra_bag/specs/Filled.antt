-- What a bag knows of which slots have a message: how many of each block do. No public contract mentions it.
use Rattle.std.specs.Prelude.{◌≡◌, ◌≢◌, ℕ, List, [], ◌∷◌, ◌++◌, Option, None, length, take, drop, replicate}
use Rattle.ra_stamp.specs.declared.message.Message.{Message}
use Rattle.ra_bag.specs.declared.filled.Filled.{Filled}
use Rattle.ra_bag.specs.Bag.{messages_in}

-- how many of the slots have a message
abbrev pub count_of : List (Option Message) → ℕ
count_of slots = length (messages_in slots)

-- the counts are those of blocks of this size, into which the slots are cut; the last block may be smaller
abbrev pub AreCounts : ℕ → List ℕ → List (Option Message) → Type 0
AreCounts size [] slots = slots ≡ []
AreCounts size (count ∷ counts) slots = (count ≡ count_of (take size slots)) × AreCounts size counts (drop size slots)

-- the slots, after this many that are gone
abbrev pub after_gone : ℕ → List (Option Message) → List (Option Message)
after_gone gone slots = replicate gone None ++ slots

-- the counts are those of blocks of three sizes, into which the slots are cut with those that are gone, and before the
-- slot that is noted there are as many messages as the place that is noted
pub record IsShown (filled : Filled) (slots : List (Option Message)) : Type 0 where
  pub small : AreCounts 16 filled.small.items (after_gone filled.gone slots)
  pub middle : AreCounts 256 filled.middle.items (after_gone filled.gone slots)
  pub large : AreCounts 4096 filled.large.items (after_gone filled.gone slots)
  pub noted : count_of (take filled.noted_slot slots) ≡ filled.noted

-- if anything is counted, the slots are
abbrev pub KeepsShown : Filled → List (Option Message) → Type 0
KeepsShown filled slots = length filled.small.items ≢ 0 → IsShown filled slots
