-- The next seed that an observer learns of.
use Rattle.std.proofs.Common.{◌≡◌, ℕ, ◌+◌, ◌≤◌, Option, Some, None, List, [], ◌∷◌, ◌++◌, length, refl, sym, ap, subst, ◌∙◌, arith}
use Rattle.std.proofs.lemmas.List.{append-nil, append_assoc, length-append}
use Rattle.ra_schedule.specs.declared.surveys.seed_outcomes.SeedOutcome.{SeedOutcome}
use Rattle.ra_schedule.specs.Faults.{FaultRates}
use Rattle.ra_schedule.specs.Script.{ScriptState}
use Rattle.ra_schedule.specs.Survey.{chance, IsOutcome, AreOutcomes}
use Rattle.ra_schedule.specs.Telling.{Told, Tells, with_seeds, TellsSeeds, TellsSomeSeeds}
use Rattle.ra_schedule.proofs.SurveySeeds.{outcomes_more}

tells_nothing : (told : Option (List Told)) → Tells told told []
tells_nothing None = tt
tells_nothing (Some xs) = sym (append-nil xs)

tells_both : (old now new : Option (List Told)) (xs ys : List Told) → Tells old now xs → Tells now new ys → Tells old new (xs ++ ys)
tells_both None now new xs ys h g = tt
tells_both (Some a) None new xs ys h g = absurd h
tells_both (Some a) (Some b) None xs ys h g = absurd g
tells_both (Some a) (Some b) (Some c) xs ys h g = g ∙ ap (λ (zs : List Told). zs ++ ys) h ∙ append_assoc a xs ys

one_more : (first : ℕ) (outcomes : List SeedOutcome) (outcome : SeedOutcome) (seed : ℕ) → first + length outcomes ≡ seed
    → with_seeds first outcomes ++ record { seed = seed; outcome = outcome } ∷ [] ≡ with_seeds first (outcomes ++ outcome ∷ [])
one_more first [] outcome seed is =
    let same : seed ≡ first = omega arith in ap (λ (n : ℕ). record { seed = n; outcome = outcome } ∷ []) same
one_more first (x ∷ xs) outcome seed is =
    ap (λ (told : List Told). record { seed = first; outcome = x } ∷ told) (one_more (first + 1) xs outcome seed (omega arith))

-- what an observer has learned of the seeds before this one
pub record ToldSoFar (script : ScriptState) (faults : Option FaultRates) (limit first seed : ℕ) (old new : Option (List Told)) : Type 0 where
  pub outcomes : List SeedOutcome
  pub each : AreOutcomes script faults limit first outcomes
  pub seeds : first + length outcomes ≡ seed
  pub told : Tells old new (with_seeds first outcomes)

pub told_none : (script : ScriptState) (faults : Option FaultRates) (limit first : ℕ) (told : Option (List Told))
    → ToldSoFar script faults limit first first told told
told_none script faults limit first told = record {
  outcomes = [];
  each = λ place outcome e. absurd cc;
  seeds = omega arith;
  told = tells_nothing told;
}

pub told_more : (script : ScriptState) (faults : Option FaultRates) (limit first seed : ℕ) (old now new : Option (List Told)) (outcome : SeedOutcome)
    → ToldSoFar script faults limit first seed old now → IsOutcome script (chance faults seed) limit outcome
    → Tells now new (record { seed = seed; outcome = outcome } ∷ []) → ToldSoFar script faults limit first (seed + 1) old new
told_more script faults limit first seed old now new outcome so is tells = record {
  outcomes = so.outcomes ++ outcome ∷ [];
  each = outcomes_more script faults limit first seed so.outcomes outcome so.each so.seeds is;
  seeds = omega (arith, so.seeds, length-append so.outcomes (outcome ∷ []));
  told = subst (Tells old new) (one_more first so.outcomes outcome seed so.seeds)
      (tells_both old now new (with_seeds first so.outcomes) (record { seed = seed; outcome = outcome } ∷ []) so.told tells);
}

-- the seeds up to this one, if they are this many
pub tells_seeds : (script : ScriptState) (faults : Option FaultRates) (limit first seed count : ℕ) (old new : Option (List Told))
    → ToldSoFar script faults limit first seed old new → first + count ≡ seed → TellsSeeds script faults limit first count old new
tells_seeds script faults limit first seed count old new so is = record {
  outcomes = so.outcomes;
  each = so.each;
  all = omega (arith, so.seeds);
  told = so.told;
}

-- the seeds before one that is not past the last
pub tells_some : (script : ScriptState) (faults : Option FaultRates) (limit first seed last : ℕ) (old new : Option (List Told))
    → ToldSoFar script faults limit first seed old new → seed ≤ last → TellsSomeSeeds script faults limit first last old new
tells_some script faults limit first seed last old new so most = record {
  count = length so.outcomes;
  before_last = omega (arith, so.seeds);
  tells = record { outcomes = so.outcomes; each = so.each; all = refl; told = so.told };
}
