-- What a watcher has been told while a text is checked. No public contract speaks of it.
use Rattle.std.specs.Prelude.{◌≡◌, ℕ, ◌+◌, ◌*◌, ◌≤◌, List, [], All, Option, IfSome, length}
use Rattle.ra_trace.specs.Following.{Tells, AreEvery}

-- The watcher was told what it is to be told before the line with this number, and is to be told next after as many
-- lines as are due. `before` and `now` are what it was told before the check and by now, if its contract tells.
pub record IsTold {S : Type 0} (lines_of : S → ℕ) (IsTrueOf : List ℕ → S → Type 0) (every : ℕ) (old : Option (List ℕ))
    (before now : Option (List S)) (number due : ℕ) : Type 0 where
  pub told : List S
  pub tells : Tells before now told
  pub each : IfSome old (λ input. All (IsTrueOf input) told)
  pub places : AreEvery lines_of every 0 told
  pub due_is : due ≡ (length told + 1) * every
  pub ahead : 1 ≤ every → number ≤ due
  pub none : every ≡ 0 → told ≡ []
