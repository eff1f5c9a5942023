-- What an observer learns of the runs by many seeds.
use Rattle.std.specs.Prelude.{◌≡◌, ℕ, ◌+◌, ◌-◌, ◌<◌, List, [], ◌∷◌, ◌++◌, length, Option, Some, None, ⊤}
use Rattle.ra_schedule.specs.declared.surveys.seed_outcomes.SeedOutcome.{SeedOutcome}
use Rattle.ra_schedule.specs.Faults.{FaultRates}
use Rattle.ra_schedule.specs.Script.{ScriptState}
use Rattle.ra_schedule.specs.Survey.{AreOutcomes}

-- a seed, and its outcome
pub record Told : Type 0 where
  pub seed : ℕ
  pub outcome : SeedOutcome

-- if it is known what an observer has learned, it learned this next
abbrev pub Tells : Option (List Told) → Option (List Told) → List Told → Type 0
Tells None new more = ⊤
Tells (Some old) None more = ⊥
Tells (Some old) (Some new) more = new ≡ old ++ more

-- these outcomes with their seeds, which count up from this one
abbrev pub with_seeds : ℕ → List SeedOutcome → List Told
with_seeds seed [] = []
with_seeds seed (outcome ∷ outcomes) = record { seed = seed; outcome = outcome } ∷ with_seeds (seed + 1) outcomes

-- the observer learned the outcomes of this many seeds, in order from the first one
pub record TellsSeeds (script : ScriptState) (faults : Option FaultRates) (limit first count : ℕ)
    (old new : Option (List Told)) : Type 0 where
  pub outcomes : List SeedOutcome
  pub each : AreOutcomes script faults limit first outcomes
  pub all : length outcomes ≡ count
  pub told : Tells old new (with_seeds first outcomes)

-- the same, and the last seed was not reached
pub record TellsSomeSeeds (script : ScriptState) (faults : Option FaultRates) (limit first last : ℕ)
    (old new : Option (List Told)) : Type 0 where
  pub count : ℕ
  pub before_last : count < last + 1 - first
  pub tells : TellsSeeds script faults limit first count old new

-- how many seeds a search tries that finds this seed, or none
abbrev pub tried : ℕ → ℕ → Option ℕ → ℕ
tried first last None = last + 1 - first
tried first last (Some seed) = seed + 1 - first
