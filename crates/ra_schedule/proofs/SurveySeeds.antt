-- One more seed after those that were tried.
use Rattle.std.proofs.Common.{◌≡◌, ◌⊎◌, ℕ, zero, suc, ◌+◌, ◌-◌, Option, Some, List, [], ◌∷◌, ◌++◌, length, slice_get, refl, sym, subst, arith, inl, inr}
use Rattle.std.proofs.lemmas.List.{length-append}
use Rattle.ra_schedule.specs.declared.surveys.seed_outcomes.SeedOutcome.{SeedOutcome}
use Rattle.ra_schedule.specs.declared.surveys.seed_outcomes.Survey.{Survey}
use Rattle.ra_schedule.specs.Faults.{FaultRates}
use Rattle.ra_schedule.specs.Script.{ScriptState}
use Rattle.ra_schedule.specs.Survey.{chance, IsOutcome, AreOutcomes, Tallies, IsSurvey}
use Rattle.ra_schedule.proofs.Choosing.{same_some}

-- the outcomes of the seeds before this one
pub record SoFar (script : ScriptState) (faults : Option FaultRates) (limit first seed : ℕ) (survey : Survey) : Type 0 where
  pub outcomes : List SeedOutcome
  pub each : AreOutcomes script faults limit first outcomes
  pub seeds : first + length outcomes ≡ seed
  pub tallies : Tallies first outcomes survey

pub none_yet : (script : ScriptState) (faults : Option FaultRates) (limit first : ℕ) (survey : Survey) → Tallies first [] survey → SoFar script faults limit first first survey
none_yet script faults limit first survey t = record {
  outcomes = [];
  each = λ place outcome e. absurd cc;
  seeds = omega arith;
  tallies = t;
}

at_end : (xs : List SeedOutcome) (x : SeedOutcome) (place : ℕ) (y : SeedOutcome) → slice_get (xs ++ x ∷ []) place ≡ Some y
    → (slice_get xs place ≡ Some y) ⊎ ((place ≡ length xs) × (y ≡ x))
at_end [] x zero y e = inr (refl, same_some e refl)
at_end [] x (suc place) y e = absurd cc
at_end (z ∷ xs) x zero y e = inl e
at_end (z ∷ xs) x (suc place) y e =
    elim (at_end xs x place y e) [
      | inl before ↦ inl before
      | inr last ↦ inr (omega (arith, last.0), last.1)
    ]

-- the outcomes of the seeds before this one, and its own
pub outcomes_more : (script : ScriptState) (faults : Option FaultRates) (limit first seed : ℕ) (outcomes : List SeedOutcome) (outcome : SeedOutcome)
    → AreOutcomes script faults limit first outcomes → first + length outcomes ≡ seed → IsOutcome script (chance faults seed) limit outcome
    → AreOutcomes script faults limit first (outcomes ++ outcome ∷ [])
outcomes_more script faults limit first seed outcomes outcome each seeds is place o e =
    elim (at_end outcomes outcome place o e) [
      | inl before ↦ each place o before
      | inr last ↦
          let there : first + place ≡ seed = omega (arith, last.0, seeds) in
          subst (λ (s : ℕ). IsOutcome script (chance faults s) limit o) (sym there)
          (subst (λ (p : SeedOutcome). IsOutcome script (chance faults seed) limit p) (sym last.1) is)
    ]

pub one_more_seed : (script : ScriptState) (faults : Option FaultRates) (limit first seed : ℕ) (survey new : Survey) (outcome : SeedOutcome) → (so : SoFar script faults limit first seed survey)
    → IsOutcome script (chance faults seed) limit outcome → Tallies first (so.outcomes ++ outcome ∷ []) new → SoFar script faults limit first (seed + 1) new
one_more_seed script faults limit first seed survey new outcome so is t = record {
  outcomes = so.outcomes ++ outcome ∷ [];
  each = outcomes_more script faults limit first seed so.outcomes outcome so.each so.seeds is;
  seeds = omega (arith, so.seeds, length-append so.outcomes (outcome ∷ []));
  tallies = t;
}

-- if the last one has been tried, or there are none, these are all
pub all_seeds : (script : ScriptState) (faults : Option FaultRates) (limit first last seed : ℕ) (survey : Survey) → first + (last + 1 - first) ≡ seed
    → SoFar script faults limit first seed survey → IsSurvey script faults limit first last survey
all_seeds script faults limit first last seed survey is so = record {
  outcomes = so.outcomes;
  each = so.each;
  all = omega (arith, so.seeds, is);
  tallies = so.tallies;
}
