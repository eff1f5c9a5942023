-- What a line of input is.
use Rattle.std.specs.Prelude.{◌≡◌, ◌≢◌, ℕ, ◌≤◌, ◌⊎◌, List, [], ◌∷◌, ◌++◌, length, All}

-- at most 256 bytes without a line feed among them, then a line feed or not, and then nothing
pub record IsLine (input line : List ℕ) : Type 0 where
  pub short : length line ≤ 256
  pub no_feed : All (λ byte. byte ≢ 10) line
  pub whole : (input ≡ line) ⊎ (input ≡ line ++ 10 ∷ [])
