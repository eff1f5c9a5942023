-- What a call took from its reader, by how it ended.
use Rattle.std.proofs.Common.{◌≡◌, ◌≢◌, ℕ, ◌≤◌, ◌<◌, List, length, Option, Result, Ok, Err, sym, subst, ◌∙◌}
use Rattle.std.specs.Prelude.{IfErr, IfSome, IsErrAnd}
use Rattle.std.specs.Io.KnownBytes.{Consumes}
use Rattle.ra_cli.specs.InputOutput.{ReadsInput}

module _ {T E : Type 0} (read : E) (most : ℕ) (Refuses : List ℕ → E → Type 0) (old new : Option (List ℕ)) where
  -- with an answer
  pub reads_well : (answer : T) → (taken : List ℕ) × (length taken ≤ most) × Consumes old new taken → ReadsInput read most Refuses old new (Ok answer)
  reads_well answer taken = record { refused = tt; failed = λ e. absurd cc; at_most = taken }

  -- with a refusal that `?` passes on
  pub reads_badly : (result : Result T E) (why : E) → IsErrAnd result (λ e. e ≡ why) → IfSome old (λ input. Refuses input why)
      → (why ≡ read → (taken : List ℕ) × (length taken < most) × Consumes old new taken)
      → (taken : List ℕ) × (length taken ≤ most) × Consumes old new taken → ReadsInput read most Refuses old new result
  reads_badly (Ok answer) why is refused failed taken = absurd is
  reads_badly (Err fault) why is refused failed taken = record {
    refused = subst (λ (e : E). IfSome old (λ input. Refuses input e)) (sym is) refused;
    failed = λ e. let same : fault ≡ read = cc in failed (sym is ∙ same);
    at_most = taken;
  }

  -- with what another call made of what was read, which has no fault of the reader
  pub reads_on : (result : Result T E) → IfErr result (λ why. IfSome old (λ input. Refuses input why)) → IfErr result (λ why. why ≢ read)
      → (taken : List ℕ) × (length taken ≤ most) × Consumes old new taken → ReadsInput read most Refuses old new result
  reads_on (Ok answer) refused other taken = reads_well answer taken
  reads_on (Err fault) refused other taken = record {
    refused = refused;
    failed = λ e. let same : fault ≡ read = cc in absurd (other same);
    at_most = taken;
  }
