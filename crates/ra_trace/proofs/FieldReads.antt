-- Fields that are read, one after the other.
use Rattle.std.proofs.Common.{◌≡◌, ℕ, List, Option, Some, None, option_map, ap, ◌∙◌}
use Rattle.std.specs.Prelude.{option_and_then}
use Rattle.ra_trace.specs.Forms.{cut, before, fields}

-- no field is before a space
pub uncut : {A : Type 0} (read : List ℕ → Option A) (text : List ℕ) → cut 32 text ≡ None → before read text ≡ None
uncut read text none = ap (option_and_then (λ (parts : List ℕ × List ℕ). option_map (λ field. (field, parts.1)) (read parts.0))) none

-- what is before a space is read as this
pub cut_as : {A : Type 0} (read : List ℕ → Option A) (text field rest : List ℕ) (found : Option A) → cut 32 text ≡ Some (field, rest) → read field ≡ found
    → before read text ≡ option_map (λ x. (x, rest)) found
cut_as read text field rest found is reads =
    ap (option_and_then (λ (parts : List ℕ × List ℕ). option_map (λ x. (x, parts.1)) (read parts.0))) is ∙ ap (option_map (λ x. (x, rest))) reads

-- the first field is not read
pub no_first : {A B : Type 0} (read : List ℕ → Option A) (others : List ℕ → Option B) (text : List ℕ) → before read text ≡ None → fields read others text ≡ None
no_first read others text none = ap (option_and_then (λ prefix. option_map (λ rest. (prefix.0, rest)) (others prefix.1))) none

-- it is
pub first_then : {A B : Type 0} (read : List ℕ → Option A) (others : List ℕ → Option B) (text rest : List ℕ) (x : A) (found : Option B)
    → before read text ≡ Some (x, rest) → others rest ≡ found → fields read others text ≡ option_map (λ y. (x, y)) found
first_then read others text rest x found is reads =
    ap (option_and_then (λ prefix. option_map (λ y. (prefix.0, y)) (others prefix.1))) is ∙ ap (option_map (λ y. (x, y))) reads
