-- What holds of each input.
use Rattle.std.proofs.Common.{ℕ, Option, Some, None, List}
use Rattle.std.specs.Prelude.{IfSome}

-- a fact that holds of each input holds of a known one
pub for_each : (old : Option (List ℕ)) (P : List ℕ → Type 0) → ((input : List ℕ) → P input) → IfSome old P
for_each None P h = tt
for_each (Some input) P h = h input
