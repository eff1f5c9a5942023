-- Names, as they are read.
use Rattle.std.proofs.Common.{◌≡◌, ℕ, ◌<◌, ◌==◌, ◌↔◌, arith, true, false, ◌&&◌, nat_le, List, length, Option, Some, None, IsSome, IfSome, refl, inl, inr}
use Rattle.std.proofs.lemmas.Bool.{and_parts, cases_Bool, leb-true, le-leb, false≢true}
use Rattle.std.proofs.lemmas.Bool.Decides.{nat_tests}
use Rattle.std.proofs.lemmas.List.Elements.{All-weaker}
use Rattle.std.proofs.lemmas.List.Sums.{AllPass-from_list_all, list_all-from_AllPass}
use Rattle.std.specs.List.{list_all}
use Rattle.ra_stamp.specs.Name.{IsName, is_name_byte}
use Rattle.ra_trace.specs.Forms.{is_name, name_of}
use Rattle.ra_trace.proofs.Cuts.{IsFree}

pub name_checked : (bytes : List ℕ) → IsName bytes → is_name bytes ≡ true
name_checked bytes h =
    rw (le-leb 1 (length bytes) h.not_empty, le-leb (length bytes) 32 h.not_long, list_all-from_AllPass is_name_byte bytes h.each)

pub checked_name : (bytes : List ℕ) → is_name bytes ≡ true → IsName bytes
checked_name bytes h =
    let (some, others) = and_parts (nat_le 1 (length bytes)) (nat_le (length bytes) 32 && list_all is_name_byte bytes) h in
    let (few, each) = and_parts (nat_le (length bytes) 32) (list_all is_name_byte bytes) others in
    record { not_empty = leb-true 1 (length bytes) some; not_long = leb-true (length bytes) 32 few; each = AllPass-from_list_all is_name_byte bytes each }

-- by `Name::of`
pub name_made : (bytes : List ℕ) (r : Option (List ℕ)) → IsSome r ↔ IsName bytes → IfSome r (λ name. name ≡ bytes) → r ≡ name_of bytes
name_made bytes (Some name) valid value = let good = name_checked bytes (valid.0 refl) in rw (value, good)
name_made bytes None valid value =
    elim (cases_Bool (is_name bytes)) [
      | inl good ↦ absurd (false≢true (valid.1 (checked_name bytes good)))
      | inr bad ↦ rw bad
    ]

not_byte : (byte b : ℕ) → byte < 45 → is_name_byte b ≡ true → (b == byte) ≡ false
not_byte byte b low h = grind (arith, nat_tests)

pub IsFree-name : (byte : ℕ) (name : List ℕ) → byte < 45 → IsName name → IsFree byte name
IsFree-name byte name low h = All-weaker (λ b. is_name_byte b ≡ true) (λ b. (b == byte) ≡ false) (λ b. not_byte byte b low) name h.each
