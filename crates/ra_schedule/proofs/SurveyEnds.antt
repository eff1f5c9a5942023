-- What is counted if no seed, or each, came to an end.
use Rattle.std.proofs.Common.{◌≡◌, ℕ, suc, ◌+◌, ◌-◌, ◌≤◌, Bool, true, false, Option, Some, None, List, [], ◌∷◌, length, slice_get, refl, ap, ◌∙◌, arith}
use Rattle.std.specs.Prelude.{filter, option_map}
use Rattle.std.specs.List.{position_from}
use Rattle.std.proofs.lemmas.Bool.{false≢true, cond-true, cond-false}
use Rattle.ra_schedule.specs.declared.error.DriveError.TheVariants.{TurnLimit}
use Rattle.ra_schedule.specs.declared.surveys.seed_outcomes.SeedOutcome.{SeedOutcome}
use Rattle.ra_schedule.specs.declared.surveys.seed_outcomes.SeedOutcome.TheVariants.{Finished, Stuck, Limit}
use Rattle.ra_schedule.specs.declared.surveys.seed_outcomes.Survey.{Survey}
use Rattle.ra_schedule.specs.Faults.{FaultRates}
use Rattle.ra_schedule.specs.Script.{ScriptState, IsScript}
use Rattle.ra_schedule.specs.Schedule.{RepeatsNothing}
use Rattle.ra_schedule.specs.LockOrder.{IsOutOfOrder, IsUnreleased}
use Rattle.ra_schedule.specs.Performing.{LosesNothing, most_turns}
use Rattle.ra_schedule.specs.Below.{LawsBelow}
use Rattle.ra_schedule.specs.BelowFinishing.{LawsOfRuns}
use Rattle.ra_schedule.specs.Survey.{chance, IsOutcome, is_finished, is_stuck, is_limit, tally_of, NoneIsLost, NoneIsRepeated, SeedsFinish, IsSurvey}
use Rattle.ra_schedule.proofs.Endings.{chance_chooses, seed_finishes}
use Rattle.ra_schedule.proofs.ThoroughPolicies.{never_stops}

-- ---- What is counted

abbrev pub Each : (SeedOutcome → Bool) → Bool → List SeedOutcome → Type 0
Each test holds outcomes = (place : ℕ) (outcome : SeedOutcome) → slice_get outcomes place ≡ Some outcome → test outcome ≡ holds

later : (test : SeedOutcome → Bool) (holds : Bool) (o : SeedOutcome) (os : List SeedOutcome) → Each test holds (o ∷ os) → Each test holds os
later test holds o os each place outcome e = each (suc place) outcome e

none_found : (test : SeedOutcome → Bool) (i : ℕ) (outcomes : List SeedOutcome) → Each test false outcomes → position_from test i outcomes ≡ None
none_found test i [] each = refl
none_found test i (o ∷ os) each =
    cond-false (test o) (Some i) (position_from test (i + 1) os) (each 0 o refl) ∙ none_found test (i + 1) os (later test false o os each)

-- if no outcome passes the test, none is counted
none_counted : (test : SeedOutcome → Bool) (first : ℕ) (outcomes : List SeedOutcome) → Each test false outcomes → tally_of test first outcomes ≡ None
none_counted test first outcomes each =
    ap (option_map (λ (seed : ℕ). record { seeds = length (filter test outcomes); first = seed })) (none_found test first outcomes each)

all_pass : (test : SeedOutcome → Bool) (outcomes : List SeedOutcome) → Each test true outcomes → filter test outcomes ≡ outcomes
all_pass test [] each = refl
all_pass test (o ∷ os) each =
    cond-true (test o) (o ∷ filter test os) (filter test os) (each 0 o refl) ∙ ap (λ (xs : List SeedOutcome). o ∷ xs) (all_pass test os (later test true o os each))

first_found : (test : SeedOutcome → Bool) (i : ℕ) (outcomes : List SeedOutcome) → 1 ≤ length outcomes → Each test true outcomes → position_from test i outcomes ≡ Some i
first_found test i [] some each = absurd (omega (arith, some))
first_found test i (o ∷ os) some each = cond-true (test o) (Some i) (position_from test (i + 1) os) (each 0 o refl)

-- if each outcome passes the test, all are counted
all_counted : (test : SeedOutcome → Bool) (first count : ℕ) (outcomes : List SeedOutcome) → 1 ≤ length outcomes → length outcomes ≡ count → Each test true outcomes
    → tally_of test first outcomes ≡ Some (record { seeds = count; first = first })
all_counted test first count outcomes some is each =
    ap (option_map (λ (seed : ℕ). record { seeds = length (filter test outcomes); first = seed })) (first_found test first outcomes some each)
    ∙ ap (λ (n : ℕ). Some (record { seeds = n; first = first })) (ap length (all_pass test outcomes each) ∙ is)

-- ---- Seeds that come to no such end

unlost : (faults : Option FaultRates) (seed : ℕ) → NoneIsLost faults → LosesNothing (chance faults seed)
unlost None seed none = tt
unlost (Some rates) seed none = none

unrepeated : (faults : Option FaultRates) (seed : ℕ) → NoneIsRepeated faults → RepeatsNothing (chance faults seed)
unrepeated None seed none = tt
unrepeated (Some rates) seed none = none

module _ (laws : LawsOfRuns) (below : LawsBelow) (script : ScriptState) (fit : IsScript script) (faults : Option FaultRates) (limit : ℕ) where
  not_stuck : (IsOutOfOrder script → ⊥) → (IsUnreleased script → ⊥) → NoneIsLost faults → (seed : ℕ) (outcome : SeedOutcome) → IsOutcome script (chance faults seed) limit outcome
      → is_stuck outcome ≡ false
  not_stuck ordered released none seed (Finished figures) came = refl
  not_stuck ordered released none seed (Stuck figures) came =
      absurd (false≢true (came.run.waiting_ends (chance_chooses faults seed) (unlost faults seed none) ordered released))
  not_stuck ordered released none seed Limit came = refl

  not_at_limit : NoneIsRepeated faults → most_turns script ≤ limit → (seed : ℕ) (outcome : SeedOutcome) → IsOutcome script (chance faults seed) limit outcome
      → is_limit outcome ≡ false
  not_at_limit none enough seed (Finished figures) came = refl
  not_at_limit none enough seed (Stuck figures) came = refl
  not_at_limit none enough seed Limit (moves, follows, stops) =
      absurd (never_stops laws below script fit (chance faults seed) (unrepeated faults seed none) (chance_chooses faults seed) limit enough moves TurnLimit follows stops)

  pub seeds_finish : (first last : ℕ) (survey : Survey) → IsSurvey script faults limit first last survey → SeedsFinish script faults limit first last survey
  seeds_finish first last survey is = record {
    none_stuck = λ ordered released lost.
        is.tallies.stuck ∙ none_counted is_stuck first is.outcomes
        (λ place outcome e. not_stuck ordered released lost (first + place) outcome (is.each place outcome e));
    none_at_limit = λ repeated enough.
        is.tallies.limit ∙ none_counted is_limit first is.outcomes
        (λ place outcome e. not_at_limit repeated enough (first + place) outcome (is.each place outcome e));
    all_finished = λ ordered released lost repeated enough some.
        is.tallies.finished ∙ all_counted is_finished first (last + 1 - first) is.outcomes (omega (arith, is.all)) is.all
        (λ place outcome e. seed_finishes laws below script fit faults limit (first + place) outcome ordered released
        (unlost faults (first + place) lost) (unrepeated faults (first + place) repeated) enough (is.each place outcome e));
  }
