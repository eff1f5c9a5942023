-- The first seed that brings a script to a given end.
use Rattle.std.specs.Prelude.{◌≡◌, ℕ, ◌+◌, ◌≤◌, ◌<◌, Bool, true, false, Option, Some, None}
use Rattle.ra_schedule.specs.declared.choice.Policy.{Policy}
use Rattle.ra_schedule.specs.declared.surveys.first_seed.Ending.{Ending}
use Rattle.ra_schedule.specs.declared.surveys.first_seed.Ending.TheVariants.{Finished, Stuck}
use Rattle.ra_schedule.specs.declared.surveys.seed_outcomes.SeedOutcome.{SeedOutcome}
use Rattle.ra_schedule.specs.Faults.{FaultRates}
use Rattle.ra_schedule.specs.Script.{ScriptState}
use Rattle.ra_schedule.specs.Survey.{chance, is_finished, is_stuck, IsOutcome}

-- whether a run with this outcome came to this end
abbrev pub is_end : Ending → SeedOutcome → Bool
is_end Finished outcome = is_finished outcome
is_end Stuck outcome = is_stuck outcome

-- whether a script comes to this end under a policy, within this many turns
abbrev pub EndsSo : ScriptState → Policy → ℕ → Ending → Bool → Type 0
EndsSo script policy limit ending holds =
    (outcome : SeedOutcome) × IsOutcome script policy limit outcome × (is_end ending outcome ≡ holds)

-- no seed from the first one on and before this one brings the script to this end
abbrev pub NoneBefore : ScriptState → Option FaultRates → (limit : ℕ) → Ending → (first seed : ℕ) → Type 0
NoneBefore script faults limit ending first seed =
    (other : ℕ) → first ≤ other → other < seed → EndsSo script (chance faults other) limit ending false

-- the least seed from the first to the last, both included, that brings the script to this end, or None if no seed does
abbrev pub IsFirstSeed : ScriptState → Option FaultRates → (limit : ℕ) → Ending → (first last : ℕ) → Option ℕ → Type 0
IsFirstSeed script faults limit ending first last None = NoneBefore script faults limit ending first (last + 1)
IsFirstSeed script faults limit ending first last (Some seed) = (first ≤ seed) × (seed ≤ last)
    × EndsSo script (chance faults seed) limit ending true × NoneBefore script faults limit ending first seed
