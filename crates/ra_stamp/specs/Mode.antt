-- Which modes exclude each other, and their words.
use Rattle.std.specs.Prelude.{ℕ, Bool, true, false, not, IsTrue, List, codes}
use Rattle.ra_stamp.specs.declared.mode.Mode.{Mode}
use Rattle.ra_stamp.specs.declared.mode.Mode.TheVariants.{Shared, Exclusive}
use Rattle.ra_stamp.specs.declared.mode.Mode.TheVariants.{IntentShared, IntentExclusive, SharedIntentExclusive}

-- Whether two modes can be held at once: nine of the 25 pairs can. This is the table of J. N. Gray, R. A. Lorie, G. R.
-- Putzolu and I. L. Traiger, Granularity of locks and degrees of consistency in a shared data base (1976), row by row.
-- It is unfolded only on demand, so that only proofs about the table go through its pairs.
unfoldable pub compatible : Mode → Mode → Bool
compatible IntentShared IntentShared = true
compatible IntentShared IntentExclusive = true
compatible IntentShared Shared = true
compatible IntentShared SharedIntentExclusive = true
compatible IntentShared Exclusive = false
compatible IntentExclusive IntentShared = true
compatible IntentExclusive IntentExclusive = true
compatible IntentExclusive Shared = false
compatible IntentExclusive SharedIntentExclusive = false
compatible IntentExclusive Exclusive = false
compatible Shared IntentShared = true
compatible Shared IntentExclusive = false
compatible Shared Shared = true
compatible Shared SharedIntentExclusive = false
compatible Shared Exclusive = false
compatible SharedIntentExclusive IntentShared = true
compatible SharedIntentExclusive IntentExclusive = false
compatible SharedIntentExclusive Shared = false
compatible SharedIntentExclusive SharedIntentExclusive = false
compatible SharedIntentExclusive Exclusive = false
compatible Exclusive IntentShared = false
compatible Exclusive IntentExclusive = false
compatible Exclusive Shared = false
compatible Exclusive SharedIntentExclusive = false
compatible Exclusive Exclusive = false

-- two modes conflict if they cannot be held at once
abbrev pub conflicts : Mode → Mode → Bool
conflicts a b = not (compatible a b)

-- the same as a fact
abbrev pub Conflict : Mode → Mode → Type 0
Conflict a b = IsTrue (conflicts a b)

-- the word of a mode
abbrev pub mode_word : Mode → List ℕ
mode_word Shared = codes "S"
mode_word Exclusive = codes "X"
mode_word IntentShared = codes "IS"
mode_word IntentExclusive = codes "IX"
mode_word SharedIntentExclusive = codes "SIX"
