-- What contracts see of a list.
use Rattle.std.specs.Prelude.{ℕ, List}

-- the items in order, and how many more there is room for
pub record Listed (T : Type 0) : Type 0 where
  pub items : List T
  pub spare : ℕ
