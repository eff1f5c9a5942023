-- What a refusal to write a trace says of its steps.
use Rattle.std.proofs.Common.{◌≡◌, ◌≢◌, ◌⊎◌, ℕ, List, Result, Ok, Err, refl, sym, ap, subst, inl, inr, arith}
use Rattle.std.specs.Prelude.{IfErr, IsErrOf}
use Rattle.std.proofs.lemmas.Bool.Decides.{leb_tells}
use Rattle.ra_stamp.specs.NodeId.{IsNodeNumber}
use Rattle.ra_world.specs.declared.error.RunError.TheVariants as run
use Rattle.ra_world.specs.declared.step.Step.{Step}
use Rattle.ra_world.specs.Refused.{IsRefusedAt}
use Rattle.ra_trace.specs.declared.error.WriteTraceError.{WriteTraceError}
use Rattle.ra_trace.specs.declared.error.WriteTraceError.TheVariants.{Run, Memory, Write}
use Rattle.ra_trace.specs.Refusals.{TellsRefusals}
use Rattle.ra_trace.specs.Writing.{OpensWorld, StopsIn}

-- a number of nodes is one or it is not
is_number : (n : ℕ) → ((IsNodeNumber n → ⊥) → ⊥) → IsNodeNumber n
is_number n possible =
    elim (leb_tells 1 n) [
      | inl some ↦
          elim (leb_tells n 64) [
            | inl few ↦ (some.1, few.1)
            | inr many ↦ absurd (possible (λ number. omega (arith, number.1, many.1)))
          ]
      | inr none ↦ absurd (possible (λ number. omega (arith, number.0, none.1)))
    ]

module _ {T : Type 0} (n start : ℕ) (steps : List Step) where
  -- what the result of a call that writes nothing says of the steps
  pub record Tells (result : Result T WriteTraceError) : Type 0 where
    pub refusals : TellsRefusals n start steps result
    pub early : IfErr result (λ fault. fault ≢ Write)

  tells_unopened : (fault : WriteTraceError) → OpensWorld n start (Err fault) → Tells (Err fault)
  tells_unopened (Run run.BadCount) bad = record {
    refusals = record {
      bad_count = (λ _. bad, λ _. refl);
      refused = λ place cause is. absurd cc;
      never = λ is. absurd cc;
      memory = λ is. absurd cc;
      allowed = λ number steps. absurd (bad number);
    };
    early = λ is. absurd cc;
  }
  tells_unopened (Run (run.Refused place cause)) wrong = absurd wrong
  tells_unopened (Run run.Memory) wrong = absurd wrong
  tells_unopened Memory possible = record {
    refusals = record {
      bad_count = (λ is. absurd cc, λ bad. absurd (possible bad));
      refused = λ place cause is. absurd cc;
      never = λ is. absurd cc;
      memory = λ _. is_number n possible;
      allowed = λ number steps. inl refl;
    };
    early = λ is. absurd cc;
  }
  tells_unopened Write wrong = absurd wrong

  tells_stopped : IsNodeNumber n → (fault : WriteTraceError) → StopsIn n start steps fault → Tells (Err fault)
  tells_stopped number (Run run.BadCount) wrong = absurd wrong
  tells_stopped number (Run (run.Refused at why)) (refused, no_run) = record {
    refusals = record {
      bad_count = (λ is. absurd cc, λ bad. absurd (bad number));
      refused = λ place cause is.
          let same : at ≡ place = cc in
          let same_cause : why ≡ cause = cc in
          (number, subst (λ k. IsRefusedAt n start steps k cause) same (subst (IsRefusedAt n start steps at) same_cause refused));
      never = λ is. absurd cc;
      memory = λ is. absurd cc;
      allowed = λ number steps. absurd (no_run steps);
    };
    early = λ is. absurd cc;
  }
  tells_stopped number (Run run.Memory) wrong = absurd wrong
  tells_stopped number Memory stops = record {
    refusals = record {
      bad_count = (λ is. absurd cc, λ bad. absurd (bad number));
      refused = λ place cause is. absurd cc;
      never = λ is. absurd cc;
      memory = λ _. number;
      allowed = λ number steps. inl refl;
    };
    early = λ is. absurd cc;
  }
  tells_stopped number Write wrong = absurd wrong

  -- a world was not made
  pub unopened : (result : Result T WriteTraceError) (fault : WriteTraceError) → result ≡ Err fault → OpensWorld n start (Err fault) → Tells result
  unopened result fault is opens = subst Tells (sym is) (tells_unopened fault opens)

  -- a step was not made
  pub stopped : (result : Result T WriteTraceError) (fault : WriteTraceError) → result ≡ Err fault → IsNodeNumber n → StopsIn n start steps fault → Tells result
  stopped result fault is number stops = subst Tells (sym is) (tells_stopped number fault stops)

  -- all were made
  pub all_made : (value : T) → IsNodeNumber n → Tells (Ok value)
  all_made value number = record {
    refusals = record {
      bad_count = (λ is. absurd cc, λ bad. absurd (bad number));
      refused = λ place cause is. absurd cc;
      never = λ is. absurd cc;
      memory = λ is. absurd cc;
      allowed = λ number steps. tt;
    };
    early = tt;
  }

-- ---- A trace was made or not, and then it was written or not

same_fault : {T U : Type 0} (fault why : WriteTraceError) → IsErrOf {T = U} (Err fault) why → IsErrOf {T = T} (Err fault) why
same_fault fault why is = let same : fault ≡ why = cc in ap Err same

module _ {T U : Type 0} (n start : ℕ) (steps : List Step) where
  tells_of : (fault : WriteTraceError) → Tells {T = T} n start steps (Err fault) → Tells {T = U} n start steps (Err fault)
  tells_of fault tells =
      let told = tells.refusals in
      record {
        refusals = record {
          bad_count = (λ is. told.bad_count.0 (same_fault fault (Run run.BadCount) is), λ bad. same_fault fault (Run run.BadCount) (told.bad_count.1 bad));
          refused = λ place cause is. told.refused place cause (same_fault fault (Run (run.Refused place cause)) is);
          never = λ is. told.never (same_fault fault (Run run.Memory) is);
          memory = λ is. told.memory (same_fault fault Memory is);
          allowed = told.allowed;
        };
        early = tells.early;
      }

  -- none was made
  pub passes : (result : Result U WriteTraceError) (fault : WriteTraceError) → result ≡ Err fault → Tells {T = T} n start steps (Err fault) → Tells n start steps result
  passes result fault is tells = subst (Tells {T = U} n start steps) (sym is) (tells_of fault tells)

-- it was made and not written
module _ {T : Type 0} (n start : ℕ) (steps : List Step) (result : Result T WriteTraceError) (is : result ≡ Err Write) where
  pub tells_unwritten : IsNodeNumber n → TellsRefusals n start steps result
  tells_unwritten number = record {
    bad_count = (λ of. absurd cc, λ bad. absurd (bad number));
    refused = λ place cause of. absurd cc;
    never = λ of. absurd cc;
    memory = λ of. absurd cc;
    allowed = λ number steps. subst (λ (r : Result T WriteTraceError). IfErr r (λ fault. (fault ≡ Memory) ⊎ (fault ≡ Write))) (sym is) (inr refl);
  }

  pub of_writer : (X : Type 0) → IfErr result (λ fault. fault ≢ Write → X)
  of_writer X = subst (λ (r : Result T WriteTraceError). IfErr r (λ fault. fault ≢ Write → X)) (sym is) (λ other. absurd (other refl))
