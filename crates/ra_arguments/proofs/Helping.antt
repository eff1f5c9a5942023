-- Whether an argument asks for help.
use Rattle.std.proofs.Common.{◌≡◌, ◌↔◌, ℕ, zero, suc, ◌<◌, List, [], ◌∷◌, length, map, slice_index_or, String, Global, string_bytes, refl, ap, subst, sym, arith}
use Rattle.std.specs.Prelude.{Any}
use Rattle.ra_arguments.specs.Arguments.{IsHelpArgument}

-- an argument among the bytes of the arguments
bytes_at : (arguments : List (String Global)) (k : ℕ) (argument : String Global) → k < length arguments → slice_index_or arguments k argument ≡ argument
    → (k < length (map string_bytes arguments)) × (slice_index_or (map string_bytes arguments) k (string_bytes argument) ≡ string_bytes argument)
bytes_at [] k argument less is = absurd (omega arith)
bytes_at (x ∷ xs) zero argument less is = (omega arith, ap string_bytes is)
bytes_at (x ∷ xs) (suc k) argument less is = let rest = bytes_at xs k argument (omega arith) is in (omega (arith, rest.0), rest.1)

-- the argument with these bytes
argument_at : (arguments : List (String Global)) (k : ℕ) (bytes : List ℕ) → k < length (map string_bytes arguments)
    → slice_index_or (map string_bytes arguments) k bytes ≡ bytes
    → (argument : String Global) × (k < length arguments) × (slice_index_or arguments k argument ≡ argument) × (string_bytes argument ≡ bytes)
argument_at [] k bytes less is = absurd (omega arith)
argument_at (x ∷ xs) zero bytes less is = (x, omega arith, refl, is)
argument_at (x ∷ xs) (suc k) bytes less is = let rest = argument_at xs k bytes (omega arith) is in (rest.0, omega (arith, rest.1), rest.2, rest.3)

-- an argument asks for help exactly if its bytes do
pub asks_for_help : (arguments : List (String Global)) → Any (λ argument. IsHelpArgument (string_bytes argument)) arguments ↔ Any IsHelpArgument (map string_bytes arguments)
asks_for_help arguments = (there, back)
  where
    there : Any (λ argument. IsHelpArgument (string_bytes argument)) arguments → Any IsHelpArgument (map string_bytes arguments)
    there (k, argument, less, is, help) = let at = bytes_at arguments k argument less is in (k, string_bytes argument, at.0, at.1, help)

    back : Any IsHelpArgument (map string_bytes arguments) → Any (λ argument. IsHelpArgument (string_bytes argument)) arguments
    back (k, bytes, less, is, help) = let at = argument_at arguments k bytes less is in (k, at.0, at.1, at.2, subst IsHelpArgument (sym at.3) help)
