-- What came of a check, told of the input.
use Rattle.std.proofs.Common.{◌≡◌, ◌≤◌, ℕ, Bool, true, List, length, Option, Some, None, subst}
use Rattle.std.specs.Prelude.{IfSome}
use Rattle.std.specs.Io.KnownBytes.{Consumes, Appends}
use Rattle.ra_cli.specs.Checks.{Judges}

-- a kind of text, of which a verdict is valid only if it is `valid_of` some numbers
module _ {V : Type 0} (IsVerdictOn : List ℕ → V → Type 0) (Meets : List ℕ → V → Bool → Type 0)
    (Shows : Option (List ℕ) → Option (List ℕ) → V → Type 0) (is_valid : V → Bool) (lines_of : Bool → V → List ℕ)
    (valid_of : ℕ → ℕ → V) (valid : (verdict : V) → is_valid verdict ≡ true → (m n : ℕ) × (verdict ≡ valid_of m n)) where
  -- what was told of the verdict and of whether the text passes
  abbrev Told : (old new : Option (List ℕ)) → V → Bool → Type 0
  Told old new verdict passes = ((taken : List ℕ) × IsVerdictOn taken verdict × Meets taken verdict passes × Consumes old new taken)
      × IfSome old (λ input. Meets input verdict passes)

  judges_so : (limit : ℕ) (old new before after : Option (List ℕ)) (verdict : V) (passes : Bool)
      → IfSome old (λ input. IsVerdictOn input verdict)
      → IfSome old (λ input. (m n : ℕ) → verdict ≡ valid_of m n → (length input ≤ limit) × Consumes old new input)
      → Told old new verdict passes → Shows old new verdict → Appends before after (lines_of passes verdict)
      → Judges IsVerdictOn Meets Shows is_valid lines_of old new before after passes
  judges_so limit None new before after verdict passes ok whole (alone, meets) shows out = (tt, (alone.0, verdict, alone.1, alone.2, out))
  judges_so limit (Some input) new before after verdict passes ok whole (alone, meets) shows out = (
    (verdict, ok, meets, shows, λ is. let (m, n, of) = valid verdict is in (whole m n of).1, out),
    (alone.0, verdict, alone.1, alone.2, out),
  )

  pub judges : (limit : ℕ) (old new before after : Option (List ℕ)) (verdict : V) (passes right : Bool)
      → IfSome old (λ input. IsVerdictOn input verdict)
      → IfSome old (λ input. (m n : ℕ) → verdict ≡ valid_of m n → (length input ≤ limit) × Consumes old new input)
      → Told old new verdict passes → Shows old new verdict → passes ≡ right → Appends before after (lines_of passes verdict)
      → Judges IsVerdictOn Meets Shows is_valid lines_of old new before after right
  judges limit old new before after verdict passes right ok whole told shows same out =
      subst (λ (b : Bool). Judges IsVerdictOn Meets Shows is_valid lines_of old new before after b) same
      (judges_so limit old new before after verdict passes ok whole told shows out)

-- two facts that hold of the input if it is known
pub both_known : (old : Option (List ℕ)) (A B : List ℕ → Type 0) → IfSome old A → IfSome old B → IfSome old (λ input. A input × B input)
both_known None A B first second = tt
both_known (Some input) A B first second = (first, second)
