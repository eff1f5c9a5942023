-- What is answered for a policy and a script that it brings to the end.
use Rattle.std.proofs.Common.{◌≡◌, ℕ, Bool, Option, Some, None, Result, Ok, Err, List, sym, ◌∙◌, subst}
use Rattle.std.specs.Prelude.{IfSome, IfOk, IsTrue}
use Rattle.ra_schedule.specs.declared.choice.Policy.{Policy}
use Rattle.ra_schedule.specs.declared.error.DriveError.{DriveError}
use Rattle.ra_schedule.specs.declared.error.DriveError.TheVariants.{TurnLimit}
use Rattle.ra_schedule.specs.LockOrder.{IsOutOfOrder, IsUnreleased}
use Rattle.ra_schedule.specs.Performing.{ChoosesItself, LosesNothing}
use Rattle.ra_schedule.specs.Schedule.{RepeatsNothing}
use Rattle.ra_schedule.specs.Script.{ScriptState}
use Rattle.ra_script.specs.declared.error.PerformError.{PerformError}
use Rattle.ra_script.specs.declared.error.PerformError.TheVariants.{Drive}
use Rattle.ra_script.specs.declared.output_kind.OutputKind.{OutputKind}
use Rattle.ra_script.specs.Performed.{IsPerformedAs, RefusesAs, IsOrderly, BringsToEnd}
use Rattle.ra_script.proofs.ReadScripts.{ok_same}

abbrev failed : PerformError → Result Bool PerformError
failed why = Err why

pub no_err : {x : Bool} {y : PerformError} → ◌≡◌ {A = Result Bool PerformError} (Ok x) (Err y) → ⊥
no_err e = cc

pub same_fault : {x y : PerformError} → ◌≡◌ {A = Result Bool PerformError} (Err x) (Err y) → x ≡ y
same_fault e = cc

pub ends_finished : (format : OutputKind) (policy : Policy) (input output : List ℕ) (finished : Bool) → IsPerformedAs format policy input output finished
    → LosesNothing policy → ChoosesItself policy → IsOrderly input → IsTrue finished
ends_finished format policy input output finished performed unlost itself orderly =
    let same : orderly.script ≡ performed.script = ok_same (sym orderly.script_is ∙ performed.script_is) in
    performed.run.waiting_ends itself unlost (subst (λ (s : ScriptState). IsOutOfOrder s → ⊥) same orderly.in_order)
    (subst (λ (s : ScriptState). IsUnreleased s → ⊥) same orderly.released)

pub by_ok : (format : OutputKind) (policy : Policy) (known : Option (List ℕ)) (output : List ℕ) (finished : Bool) (Rest : List ℕ → Type 0)
    → IfSome known (λ input. IsPerformedAs format policy input output finished × Rest input) → BringsToEnd policy known (Ok finished)
by_ok format policy known output finished Rest performed = record {
  below_limit = λ unrepeated is. no_err is;
  every_turn = λ unrepeated itself cause is. no_err is;
  finished = λ unlost itself. of_input known performed unlost itself;
}
  where
    of_input : (known : Option (List ℕ)) → IfSome known (λ input. IsPerformedAs format policy input output finished × Rest input) → LosesNothing policy → ChoosesItself policy
        → IfSome known (λ input. IsOrderly input → IsTrue finished)
    of_input None performed unlost itself = tt
    of_input (Some input) performed unlost itself = ends_finished format policy input output finished performed.0 unlost itself

module _ (below_limit : (format : OutputKind) (policy : Policy) (input : List ℕ) → RepeatsNothing policy → RefusesAs format policy input (Drive TurnLimit) → ⊥)
    (never_refused : (format : OutputKind) (policy : Policy) (input : List ℕ) (cause : DriveError) → RepeatsNothing policy → ChoosesItself policy → RefusesAs format policy input (Drive cause) → ⊥) where
  pub by_err : (format : OutputKind) (policy : Policy) (known : Option (List ℕ)) (why : PerformError) → (input : List ℕ) × RefusesAs format policy input why
      → BringsToEnd policy known (Err why)
  by_err format policy known why (input, refuses) = record {
    below_limit = λ unrepeated is. below_limit format policy input unrepeated (subst (RefusesAs format policy input) (same_fault is) refuses);
    every_turn = λ unrepeated itself cause is. never_refused format policy input cause unrepeated itself (subst (RefusesAs format policy input) (same_fault is) refuses);
    finished = λ unlost itself. of_input known;
  }
    where
      of_input : (known : Option (List ℕ)) → IfSome known (λ input. IsOrderly input → IfOk (failed why) IsTrue)
      of_input None = tt
      of_input (Some input) = λ orderly. tt
