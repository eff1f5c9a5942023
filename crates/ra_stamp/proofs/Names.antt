-- A name in its array, and as text.
use Rattle.std.proofs.Common.{◌≡◌, ◌<◌, ◌≤◌, ℕ, ◌+◌, List, [], ◌∷◌, ◌++◌, length, take, drop, get_or, replicate, slice_set, true, refl, sym, ap, ◌∙◌, subst, append_assoc, arith}
use Rattle.std.proofs.lemmas.Bool.Decides.{nat_tests}
use Rattle.std.proofs.lemmas.List.{take_all, take_at, take_more, drop_more, set_at, length-take-le, drop-replicate}
use Rattle.std.proofs.lemmas.List.Elements.{All-weaker}
use Rattle.std.proofs.lemmas.List.Sums.{AllPass-from_list_all}
use Rattle.std.proofs.lemmas.Str.{IsUtf8-from_ascii}
use Rattle.std.proofs.lemmas.Str.Ascii.{IsAscii-from_all}
use Rattle.std.specs.List.{list_all}
use Rattle.std.specs.Str.{IsUtf8}
use Rattle.ra_stamp.specs.Name.{IsName, IsPadded, padded, is_name_byte}

-- a name at the start of an array of zeros
pub IsPadded-name : (bytes array : List ℕ) → IsName bytes → array ≡ bytes ++ drop (length bytes) (replicate 32 0) → IsPadded (length bytes) array
IsPadded-name bytes array name is =
    let array-is : array ≡ padded bytes = is ∙ ap (λ (zeros : List ℕ). bytes ++ zeros) (drop-replicate (length bytes) 32 0) in
    let prefix_is : take (length bytes) array ≡ bytes = ap (take (length bytes)) array-is ∙ take_at bytes _ (length bytes) refl in
    record {
      name = subst IsName (sym prefix_is) name;
      len_is = ap length prefix_is;
      bytes_is = ap padded prefix_is ∙ sym array-is;
    }

name_byte_is_ascii : (b : ℕ) → is_name_byte b ≡ true → b < 128
name_byte_is_ascii b h = grind (arith, nat_tests)

-- a name is text: each of its bytes is ASCII
pub name_is_utf8 : (bytes : List ℕ) → IsName bytes → IsUtf8 bytes
name_is_utf8 bytes name =
    IsUtf8-from_ascii bytes (IsAscii-from_all bytes (All-weaker (λ b. is_name_byte b ≡ true) (λ b. b < 128) name_byte_is_ascii bytes name.each))

-- an array whose first bytes are copied, and then the next byte
pub copied_more : (bytes before array : List ℕ) (i : ℕ) → i < length bytes → i < length before → array ≡ take i bytes ++ drop i before
    → slice_set array i (get_or bytes i 0) ≡ take (i + 1) bytes ++ drop (i + 1) before
copied_more bytes before array i here room is =
    let front : length (take i bytes) ≡ i = length-take-le i bytes (omega arith) in
    ap (λ (a : List ℕ). slice_set a i (get_or bytes i 0)) (is ∙ ap (λ (rest : List ℕ). take i bytes ++ rest) (drop_more before i 0 room))
    ∙ set_at (take i bytes) (get_or before i 0) (drop (i + 1) before) (get_or bytes i 0) i front
    ∙ sym (ap (λ (ys : List ℕ). ys ++ drop (i + 1) before) (take_more bytes i 0 here)
    ∙ append_assoc (take i bytes) (get_or bytes i 0 ∷ []) (drop (i + 1) before))

-- once all bytes are looked at, they are a name
pub name_from_bytes : (bytes : List ℕ) (i : ℕ) → length bytes ≤ i → 1 ≤ length bytes → length bytes ≤ 32 → list_all is_name_byte (take i bytes) ≡ true → IsName bytes
name_from_bytes bytes i all some few each =
    record {
      not_empty = some;
      not_long = few;
      each = AllPass-from_list_all is_name_byte bytes (sym (ap (list_all is_name_byte) (take_all i bytes all)) ∙ each);
    }

-- once all bytes are copied, zeros follow them
pub copied_all : (bytes array : List ℕ) (i : ℕ) → length bytes ≤ i → i ≤ length bytes → array ≡ take i bytes ++ drop i (replicate 32 0)
    → array ≡ bytes ++ drop (length bytes) (replicate 32 0)
copied_all bytes array i all within is =
    let there : i ≡ length bytes = omega arith in
    is ∙ ap (λ (front : List ℕ). front ++ drop i (replicate 32 0)) (take_all i bytes all) ∙ ap (λ (n : ℕ). bytes ++ drop n (replicate 32 0)) there
