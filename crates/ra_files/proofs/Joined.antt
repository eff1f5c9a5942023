-- What several readers have left after one of them was read.
use Rattle.std.proofs.Common.{◌≡◌, ◌∙◌, ◌<◌, ℕ, zero, suc, List, [], ◌∷◌, ◌++◌, length, drop, append_assoc, Option, Some, None, slice_index_or, slice_set, refl, sym, ap, arith}
use Rattle.std.specs.Io.KnownBytes.{Consumes, IsAtEnd, Keeps}
use Rattle.ra_files.specs.Joined.{joined, then_of}

module _ {R : Type 0} (remaining : R → Option (List ℕ)) where
  -- from the reader at a place on
  pub from_place : (parts : List R) (place : ℕ) (d : R) → place < length parts
      → joined remaining (drop place parts) ≡ then_of (remaining (slice_index_or parts place d)) (joined remaining (drop (suc place) parts))
  from_place [] place d less = absurd (omega (arith, less))
  from_place (part ∷ parts) zero d less = refl
  from_place (part ∷ parts) (suc place) d less = from_place parts place d (omega (arith, less))

  -- the same, after it was read
  pub with_part : (parts : List R) (place : ℕ) (part : R) → place < length parts
      → joined remaining (drop place (slice_set parts place part)) ≡ then_of (remaining part) (joined remaining (drop (suc place) parts))
  with_part [] place part less = absurd (omega (arith, less))
  with_part (first ∷ parts) zero part less = refl
  with_part (first ∷ parts) (suc place) part less = with_part parts place part (omega (arith, less))

-- a reader that gave nothing had nothing left
pub passed : (first now others : Option (List ℕ)) → Consumes first now [] → IsAtEnd now → Keeps (then_of first others) others
passed None now others gives end = tt
passed (Some xs) None others gives end = absurd gives
passed (Some xs) (Some ys) None gives end = tt
passed (Some xs) (Some ys) (Some zs) gives end = rw (gives, end) refl

-- if one fails, it keeps what it has left
pub kept : (first now others : Option (List ℕ)) → Keeps first now → Keeps (then_of first others) (then_of now others)
kept None now others keeps = tt
kept (Some xs) None others keeps = absurd keeps
kept (Some xs) (Some ys) None keeps = tt
kept (Some xs) (Some ys) (Some zs) keeps = ap (λ bytes. bytes ++ zs) keeps

-- what one gives, all give
pub given : (first now others : Option (List ℕ)) (bytes : List ℕ) → Consumes first now bytes → Consumes (then_of first others) (then_of now others) bytes
given None now others bytes gives = tt
given (Some xs) None others bytes gives = absurd gives
given (Some xs) (Some ys) None bytes gives = tt
given (Some xs) (Some ys) (Some zs) bytes gives = ap (λ all. all ++ zs) gives ∙ append_assoc bytes ys zs

-- what was passed over had nothing
pub after_kept : (a b c : Option (List ℕ)) (bytes : List ℕ) → Keeps a b → Consumes b c bytes → Consumes a c bytes
after_kept None b c bytes keeps gives = tt
after_kept (Some xs) None c bytes keeps gives = absurd keeps
after_kept (Some xs) (Some ys) None bytes keeps gives = absurd gives
after_kept (Some xs) (Some ys) (Some zs) bytes keeps gives = sym keeps ∙ gives
