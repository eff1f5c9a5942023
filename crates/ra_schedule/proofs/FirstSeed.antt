-- Another seed with which a script does not come to the end that is looked for.
use Rattle.std.proofs.Common.{◌≡◌, ℕ, ◌+◌, ◌-◌, ◌<◌, ◌≤◌, false, Option, sym, subst, arith, inl, inr}
use Rattle.std.proofs.lemmas.Bool.{cases_lt}
use Rattle.ra_schedule.specs.declared.surveys.first_seed.Ending.{Ending}
use Rattle.ra_schedule.specs.Faults.{FaultRates}
use Rattle.ra_schedule.specs.Script.{ScriptState}
use Rattle.ra_schedule.specs.Survey.{chance}
use Rattle.ra_schedule.specs.Finding.{EndsSo, NoneBefore}

pub one_more : (script : ScriptState) (faults : Option FaultRates) (limit : ℕ) (ending : Ending) (first seed : ℕ)
    → NoneBefore script faults limit ending first seed → EndsSo script (chance faults seed) limit ending false
    → NoneBefore script faults limit ending first (seed + 1)
one_more script faults limit ending first seed none not other from below =
    elim (cases_lt other seed) [
      | inl before ↦ none other from before
      | inr after ↦
          let same : other ≡ seed = omega arith in subst (λ (s : ℕ). EndsSo script (chance faults s) limit ending false) (sym same) not
    ]

-- no seed is before the first one, and none is at all if the last one is
pub none_before : (script : ScriptState) (faults : Option FaultRates) (limit : ℕ) (ending : Ending) (first : ℕ) → NoneBefore script faults limit ending first first
none_before script faults limit ending first other from below = absurd (omega arith)

pub none_past : (script : ScriptState) (faults : Option FaultRates) (limit : ℕ) (ending : Ending) (first last : ℕ) → last < first
    → NoneBefore script faults limit ending first (last + 1)
none_past script faults limit ending first last past other from below = absurd (omega (arith, past, from, below))

-- this many seeds were tried up to this one
pub tried_to : (first seed count : ℕ) → first + count ≡ seed → first + (seed + 1 - first) ≡ seed + 1
tried_to first seed count so = omega (arith, so)

pub from_first : (first seed count : ℕ) → first + count ≡ seed → first ≤ seed
from_first first seed count so = omega (arith, so)
