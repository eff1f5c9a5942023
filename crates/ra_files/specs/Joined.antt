-- What several readers give, one after the other.
use Rattle.std.specs.Prelude.{ℕ, List, [], ◌∷◌, Option, Some, drop, option_and_then}
use Rattle.std.specs.Io.KnownBytes.{prepend_known}
use Rattle.ra_files.specs.declared.joined_reader.JoinedReader.{JoinedReader}

-- what one has left and then what the others have, if both are known
abbrev pub then_of : Option (List ℕ) → Option (List ℕ) → Option (List ℕ)
then_of first others = option_and_then (λ bytes. prepend_known bytes others) first

-- what the first has left, then what the next has, and so on, if that is known of each
abbrev pub joined : {R : Type 0} → (R → Option (List ℕ)) → List R → Option (List ℕ)
joined remaining [] = Some []
joined remaining (part ∷ parts) = then_of (remaining part) (joined remaining parts)

-- what a reader over several has left
abbrev pub left_in : {R : Type 0} → (R → Option (List ℕ)) → JoinedReader R → Option (List ℕ)
left_in remaining reader = joined remaining (drop reader.done reader.parts.items)
