-- Some of the flags are computed again, one after the other.
use Rattle.std.proofs.Common.{◌≡◌, ◌≢◌, ◌⊎◌, ℕ, ◌+◌, ◌<◌, Bool, List, take, get_or, length, slice_index_or, refl, sym, ◌∙◌, subst, arith, inl, inr}
use Rattle.std.specs.Prelude.{Contains}
use Rattle.std.proofs.lemmas.Bool.{cases_eq}
use Rattle.std.proofs.lemmas.List.{take_more}
use Rattle.std.proofs.lemmas.List.Elements.{Contains-push_cases}
use Rattle.ra_world.specs.Traffic.{Move}
use Rattle.ra_schedule.specs.Script.{ScriptState}
use Rattle.ra_schedule.specs.Enabled.{IsFlag, numbers_from}

-- each flag is right, or it is as it was and its client is one of those that were left out so far
abbrev pub AreAgain : ScriptState → List Move → List Bool → List Bool → (ℕ → Type 0) → Type 0
AreAgain script moves old new IsLeftOut = (k : ℕ) (d : Bool) → k < length old
    → IsFlag script moves (k + 1) (slice_index_or new k d)
    ⊎ ((slice_index_or new k d ≡ slice_index_or old k d) × IsLeftOut (k + 1))

pub record SoFar (script : ScriptState) (moves : List Move) (old new : List Bool) (count : ℕ) (IsLeftOut : ℕ → Type 0) : Type 0 where
  pub alike : length new ≡ length old
  pub count_is : count ≡ length (numbers_from 1 new)
  pub each : AreAgain script moves old new IsLeftOut

pub nothing_yet : (script : ScriptState) (moves : List Move) (old : List Bool) (IsLeftOut : ℕ → Type 0) → ((client : ℕ) → IsLeftOut client)
    → AreAgain script moves old old IsLeftOut
nothing_yet script moves old IsLeftOut all k d within = inr (refl, all (k + 1))

-- one client more is looked at
pub one_more : (script : ScriptState) (moves : List Move) (old new next : List Bool) (client : ℕ) (Before After : ℕ → Type 0)
    → length new ≡ length old → AreAgain script moves old new Before
    → ((k : ℕ) (d : Bool) → k < length new → k + 1 ≡ client → IsFlag script moves (k + 1) (slice_index_or next k d))
    → ((k : ℕ) (d : Bool) → k + 1 ≢ client → slice_index_or next k d ≡ slice_index_or new k d)
    → ((other : ℕ) → other ≢ client → Before other → After other) → AreAgain script moves old next After
one_more script moves old new next client Before After len again this others goes_on k d within =
    elim (cases_eq (k + 1) client) [
      | inl same ↦ inl (this k d (omega (arith, within, len)) same)
      | inr apart ↦
          let is = others k d apart in
          elim (again k d within) [
            | inl right ↦ inl (subst (IsFlag script moves (k + 1)) (sym is) right)
            | inr left ↦ inr (is ∙ left.0, goes_on (k + 1) apart left.1)
          ]
    ]

-- no client is looked at
pub no_more : (script : ScriptState) (moves : List Move) (old new : List Bool) (Before After : ℕ → Type 0)
    → AreAgain script moves old new Before → ((other : ℕ) → Before other → After other) → AreAgain script moves old new After
no_more script moves old new Before After again goes_on k d within =
    elim (again k d within) [
      | inl right ↦ inl right
      | inr left ↦ inr (left.0, goes_on (k + 1) left.1)
    ]

-- one number more is left out of those that were not met
pub not_met : (numbers : List ℕ) (i d other : ℕ) → i < length numbers → other ≢ get_or numbers i d
    → (Contains (take i numbers) other → ⊥) → Contains (take (i + 1) numbers) other → ⊥
not_met numbers i d other within apart not has =
    elim (Contains-push_cases (take i numbers) (get_or numbers i d) other (subst (λ (ns : List ℕ). Contains ns other) (take_more numbers i d within) has)) [
      | inl before ↦ not before
      | inr same ↦ apart (sym same)
    ]
