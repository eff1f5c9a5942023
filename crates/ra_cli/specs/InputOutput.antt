-- What a call that reads its input and then writes the outcome takes from the reader and leaves in the writer. `old`
-- and `new` are what is left in the reader before and after it, and `before` and `after` what the writer contains, if
-- they tell.
use Rattle.std.specs.Prelude.{◌≡◌, ◌≢◌, ℕ, ◌≤◌, ◌<◌, List, [], ◌++◌, length, Result, Option, IfSome, IfErr, IsErrOf}
use Rattle.std.specs.Io.KnownBytes.{Consumes, Appends}

-- a fact about the input: it holds of the input if that is known, and in any case of some input
abbrev pub OfInput : (old : Option (List ℕ)) → (List ℕ → Type 0) → Type 0
OfInput old Holds = IfSome old Holds × ((input : List ℕ) × Holds input)

-- fewer bytes than this were taken
abbrev pub StopsBefore : (most : ℕ) → (old new : Option (List ℕ)) → Type 0
StopsBefore most old new = (taken : List ℕ) × (length taken < most) × Consumes old new taken

-- a prefix of the text was written, but not all of it
abbrev pub BreaksOff : (text : List ℕ) → (before after : Option (List ℕ)) → Type 0
BreaksOff text before after = (prefix rest : List ℕ) × (text ≡ prefix ++ rest) × (rest ≢ [])
    × Appends before after prefix

-- It takes at most this many bytes. `read` is the refusal for a fault of the reader, and `Refuses` says which inputs
-- each refusal belongs to.
pub record ReadsInput {T E : Type 0} (read : E) (most : ℕ) (Refuses : (input : List ℕ) → E → Type 0)
    (old new : Option (List ℕ))
    (result : Result T E) : Type 0 where
  pub refused : IfErr result (λ why. IfSome old (λ input. Refuses input why))
  -- a fault of the reader comes only before it gave all that may be taken
  pub failed : IsErrOf result read → StopsBefore most old new
  pub at_most : (taken : List ℕ) × (length taken ≤ most) × Consumes old new taken

-- `write` is the refusal for a fault of the writer, and `Tells` says what may be written of an input. `Unwritten` says
-- that the writer is as before.
pub record WritesOutput {T E : Type 0} (write : E) (Tells : (input output : List ℕ) → Type 0)
    (old before after : Option (List ℕ))
    (Unwritten : Type 0) (result : Result T E) : Type 0 where
  pub unwritten : IfErr result (λ why. why ≢ write → Unwritten)
  -- a fault of the writer comes only with something left to write
  pub prefix : IsErrOf result write
      → IfSome old (λ input. (prefix rest : List ℕ) × Tells input (prefix ++ rest) × (rest ≢ [])
      × Appends before after prefix)
