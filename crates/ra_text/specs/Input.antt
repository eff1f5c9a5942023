-- What is read.
use Rattle.std.specs.Prelude.{ℕ, ◌<◌, ◌≤◌, List, length, Option}
use Rattle.std.specs.Io.KnownBytes.{Consumes, IsAtEnd}

-- these bytes were read, at most as many as the limit, and fewer only if the input ends after them
pub record Reads (old new : Option (List ℕ)) (limit : ℕ) (bytes : List ℕ) : Type 0 where
  pub taken : Consumes old new bytes
  pub at_most : length bytes ≤ limit
  pub ended : length bytes < limit → IsAtEnd new
