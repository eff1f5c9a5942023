-- What the rows of the tables come to.
use Rattle.std.proofs.Common.{◌≡◌, Bool, true, false, cond, ◌&&◌, refl, sym, subst}
use Rattle.std.proofs.lemmas.Bool.{true≢false}
use Rattle.ra_stamp.specs.declared.mode.Mode.{Mode}
use Rattle.ra_stamp.specs.Mode.{conflicts}
use Rattle.ra_automaton.specs.declared.cases.Answer.{Answer}
use Rattle.ra_automaton.specs.declared.cases.Answer.TheVariants.{Defer, Reply}
use Rattle.ra_automaton.specs.declared.cases.Comparison.{Comparison}
use Rattle.ra_automaton.specs.Cases.{is_later, answer_of, IsAnswer}

-- a row's answer tells whether the modes conflict and the REQUEST is after
pub row_is_answer : (own wanted : Mode) (comparison : Comparison) → IsAnswer own wanted comparison (answer_of own wanted comparison)
row_is_answer own wanted comparison = decided (conflicts own wanted) (is_later comparison)
  where
    Tells : Bool → Bool → Answer → Type 0
    Tells excludes later Defer = (excludes ≡ true) × (later ≡ true)
    Tells excludes later Reply = excludes ≡ true → later ≡ true → ⊥

    decided : (excludes later : Bool) → Tells excludes later (cond (excludes && later) Defer Reply)
    decided true true = (refl, refl)
    decided true false = λ _ behind. true≢false (sym behind)
    decided false true = λ conflict _. true≢false (sym conflict)
    decided false false = λ conflict _. true≢false (sym conflict)

pub row_tells : (own wanted : Mode) (comparison : Comparison) (answer : Answer) → answer ≡ answer_of own wanted comparison → IsAnswer own wanted comparison answer
row_tells own wanted comparison answer is = subst (IsAnswer own wanted comparison) (sym is) (row_is_answer own wanted comparison)
