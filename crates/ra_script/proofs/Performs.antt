-- What is answered of a script that was read, or was not, by what was written of it.
use Rattle.std.proofs.Common.{◌≡◌, ◌≢◌, ℕ, ◌<◌, ◌≤◌, List, [], ◌++◌, length, Bool, Option, Ok, Err, refl, subst}
use Rattle.std.specs.Prelude.{IfSome}
use Rattle.std.specs.Io.KnownBytes.{Consumes, Appends}
use Rattle.ra_schedule.specs.declared.choice.Policy.{Policy}
use Rattle.ra_schedule.specs.declared.error.DriveError.{DriveError}
use Rattle.ra_schedule.specs.declared.error.DriveError.TheVariants.{TurnLimit}
use Rattle.ra_schedule.specs.Performing.{ChoosesItself}
use Rattle.ra_schedule.specs.Schedule.{RepeatsNothing}
use Rattle.ra_script.specs.declared.error.PerformError.{PerformError}
use Rattle.ra_script.specs.declared.error.PerformError.TheVariants.{Read, Drive, Write}
use Rattle.ra_script.specs.declared.output_kind.OutputKind.{OutputKind}
use Rattle.ra_script.specs.Performed.{IsPerformedAs, RefusesAs, PerformsScript}
use Rattle.ra_script.proofs.BroughtToEnd.{by_ok, by_err, no_err, same_fault}
use Rattle.ra_script.proofs.Inputs.{of_known, not_nil}

not_read : Write ≡ Read → ⊥
not_read e = cc

module _ (below_limit : (format : OutputKind) (policy : Policy) (input : List ℕ) → RepeatsNothing policy → RefusesAs format policy input (Drive TurnLimit) → ⊥)
    (never_refused : (format : OutputKind) (policy : Policy) (input : List ℕ) (cause : DriveError) → RepeatsNothing policy → ChoosesItself policy → RefusesAs format policy input (Drive cause) → ⊥)
    (format : OutputKind) (policy : Policy) (old new before after : Option (List ℕ)) (Untouched : Type 0)
    (at_most : (taken : List ℕ) × (length taken ≤ 65537) × Consumes old new taken) where
  -- the input had no outcome, so nothing was written
  pub unmade : (why : PerformError) → IfSome old (λ input. RefusesAs format policy input why) → (input : List ℕ) × RefusesAs format policy input why
      → why ≢ Write → (why ≡ Read → (taken : List ℕ) × (length taken < 65537) × Consumes old new taken) → Untouched
      → PerformsScript format policy old new before after Untouched (Err why)
  unmade why refused cause early failed untouched = record {
    ok = tt;
    refused = refused;
    performed = tt;
    cause = cause;
    waiting_ends = by_err below_limit never_refused format policy old why cause;
    unwritten = λ other. untouched;
    prefix = λ is. absurd (early (same_fault is));
    failed = λ is. failed (same_fault is);
    at_most = at_most;
  }

  -- the writer failed before all of it was written
  pub broken_off : (output : List ℕ) (finished : Bool) → IfSome old (λ input. IsPerformedAs format policy input output finished × Consumes old new input)
      → (input : List ℕ) × IsPerformedAs format policy input output finished
      → (prefix rest : List ℕ) → output ≡ prefix ++ rest → rest ≢ [] → Appends before after prefix
      → PerformsScript format policy old new before after Untouched (Err Write)
  broken_off output finished known some prefix rest is left appends =
      let long = not_nil output prefix rest is left in
      let cause : (input : List ℕ) × RefusesAs format policy input Write = (some.0, (output, finished, some.1, long)) in
      record {
        ok = tt;
        refused = of_known old (λ input. IsPerformedAs format policy input output finished × Consumes old new input) (λ input. RefusesAs format policy input Write)
            (λ input h. (output, finished, h.0, long)) known;
        performed = tt;
        cause = cause;
        waiting_ends = by_err below_limit never_refused format policy old Write cause;
        unwritten = λ other. absurd (other refl);
        prefix = λ fault. of_known old (λ input. IsPerformedAs format policy input output finished × Consumes old new input)
            (λ input. (f : List ℕ) × (b : List ℕ) × (done : Bool) × IsPerformedAs format policy input (f ++ b) done × (b ≢ []) × Appends before after f)
            (λ input h. (prefix, rest, finished, subst (λ (xs : List ℕ). IsPerformedAs format policy input xs finished) is h.0, left, appends)) known;
        failed = λ fault. absurd (not_read (same_fault fault));
        at_most = at_most;
      }

  -- all of it was written
  pub made : (output : List ℕ) (finished : Bool) → IfSome old (λ input. IsPerformedAs format policy input output finished × Consumes old new input)
      → (input : List ℕ) × IsPerformedAs format policy input output finished → Appends before after output
      → PerformsScript format policy old new before after Untouched (Ok finished)
  made output finished known some appends = record {
    ok = of_known old (λ input. IsPerformedAs format policy input output finished × Consumes old new input)
        (λ input. (bytes : List ℕ) × IsPerformedAs format policy input bytes finished × Consumes old new input × Appends before after bytes)
        (λ input h. (output, h.0, h.1, appends)) known;
    refused = tt;
    performed = (some.0, output, some.1, appends);
    cause = tt;
    waiting_ends = by_ok format policy old output finished _ known;
    unwritten = tt;
    prefix = λ fault. absurd (no_err fault);
    failed = λ fault. absurd (no_err fault);
    at_most = at_most;
  }
