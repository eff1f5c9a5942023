-- Nonces are read as they are written.
use Rattle.std.proofs.Common.{◌≡◌, ℕ, zero, suc, ◌+◌, ◌*◌, ◌/◌, ◌%◌, ◌^◌, ◌<◌, ◌==◌, true, false, List, [], ◌∷◌, ◌++◌, length, Some, None, refl, sym, ap, subst, ◌∙◌, inl, inr, arith, lit<}
use Rattle.std.specs.Prelude.{All, nat_lt, slice_index, Result, Ok, Err}
use Rattle.std.specs.Int.{w128, byte_at, bytes_high_first, from_be_bytes, to_be_bytes}
use Rattle.std.specs.List.{list_all}
use Rattle.std.specs.Result.{result_unwrap_or}
use Rattle.std.specs.Str.{bytes_eq}
use Rattle.std.proofs.lemmas.Bool.{cases_Bool, cases_lt, ne_eqb}
use Rattle.std.proofs.lemmas.Bool.Decides.{nat_tests}
use Rattle.std.proofs.lemmas.List.{get_or_past}
use Rattle.std.proofs.lemmas.List.Elements.{All-append, All-cons, All-nil, All-weaker}
use Rattle.std.proofs.lemmas.List.Sums.{AllPass-from_list_all}
use Rattle.std.proofs.lemmas.Nat.{mod_below, shr-shr}
use Rattle.std.proofs.lemmas.Option.{same_Some}
use Rattle.std.proofs.lemmas.Slice.Eq.{bytes_eq-Decides}
use Rattle.hex.specs.Hex.{IsBytes, decode_sized, encode_lower, encode_with, lower_digits}
use Rattle.hex.specs.declared.error.FromHexError.{FromHexError}
use Rattle.hex.proofs.HexLemmas.{decode_of-ok, decode_sized-encode_lower, decode_sized-ok, decode_sized-twice}
use Rattle.ra_trace.proofs.Cuts.{IsFree, cases_Option}
use Rattle.ra_trace.proofs.Spelled.{ReadsField}
use Rattle.ra_host_text.specs.Fields.{nonce_by, nonce_of}
use Rattle.ra_host_text.specs.HostText.{IsNonce, nonce_text}

-- ---- Bytes

small_byte : (i n : ℕ) → byte_at i n < 256
small_byte zero n = mod_below n 256 (lit< tt)
small_byte (suc i) n = mod_below (n / 256 ^ suc i) 256 (lit< tt)

-- the bytes of a number are bytes
pub high_first : (k n : ℕ) → All (λ b. b < 256) (bytes_high_first k n)
high_first zero n = All-nil (λ b. b < 256)
high_first (suc k) n = All-cons (λ b. b < 256) (byte_at k n) (bytes_high_first k n) (small_byte k n) (high_first k n)

pub are_bytes : (bytes : List ℕ) → All (λ b. b < 256) bytes → IsBytes bytes
are_bytes bytes h i =
    elim (cases_lt i (length bytes)) [
      | inl within ↦ h i 0 within
      | inr past ↦ rw (get_or_past bytes i 0 past) (lit< tt)
    ]

-- ---- Sixteen bytes

step : (n j : ℕ) → n / 2 ^ j ≡ n / 2 ^ j % 256 + n / 2 ^ (j + 8) * 256
step n j = omega (arith, shr-shr n j 8)

joined : (a b c d e f g h n p q r s t u v w : ℕ) → n ≡ a + p * 256 → p ≡ b + q * 256 → q ≡ c + r * 256 → r ≡ d + s * 256
    → s ≡ e + t * 256 → t ≡ f + u * 256 → u ≡ g + v * 256 → v ≡ h + w * 256
    → a + b * 256 + c * 65536 + d * 16777216 + e * 4294967296 + f * 1099511627776 + g * 281474976710656 + h * 72057594037927936
    + w * 18446744073709551616 ≡ n
joined a b c d e f g h n p q r s t u v w at_0 at_1 at_2 at_3 at_4 at_5 at_6 at_7 = omega arith

both_halves : (a b c d e f g h i j k l m n o p number rest : ℕ)
    → a + b * 256 + c * 65536 + d * 16777216 + e * 4294967296 + f * 1099511627776 + g * 281474976710656 + h * 72057594037927936
    + rest * 18446744073709551616 ≡ number
    → i + j * 256 + k * 65536 + l * 16777216 + m * 4294967296 + n * 1099511627776 + o * 281474976710656 + p * 72057594037927936 ≡ rest
    → p * 1329227995784915872903807060280344576 + o * 5192296858534827628530496329220096 + n * 20282409603651670423947251286016
    + m * 79228162514264337593543950336 + l * 309485009821345068724781056 + k * 1208925819614629174706176 + j * 4722366482869645213696
    + i * 18446744073709551616 + h * 72057594037927936 + g * 281474976710656 + f * 1099511627776 + e * 4294967296 + d * 16777216
    + c * 65536 + b * 256 + a ≡ number
both_halves a b c d e f g h i j k l m n o p number rest low high = omega arith

-- the number of the bytes of a number
again : (n : ℕ) → n < 2 ^ 128 → from_be_bytes w128 (to_be_bytes w128 n) ≡ n
again n small =
    let first : n ≡ n % 256 + n / 256 * 256 = omega arith in
    let low = joined _ _ _ _ _ _ _ _ n _ _ _ _ _ _ _ _ first (step n 8) (step n 16) (step n 24) (step n 32)
    (step n 40) (step n 48) (step n 56) in
    let last : n / 1329227995784915872903807060280344576 ≡ n / 1329227995784915872903807060280344576 % 256 + 0 * 256 = omega arith in
    let high = joined _ _ _ _ _ _ _ _ (n / 18446744073709551616) _ _ _ _ _ _ _ 0 (step n 64) (step n 72)
    (step n 80) (step n 88) (step n 96)
    (step n 104) (step n 112) last in
    both_halves _ _ _ _ _ _ _ _ _ _ _ _ _ _ _ _ n (n / 18446744073709551616) low (omega (arith, high))

below : (a b c d e f g h i j k l m n o p : ℕ) → a < 256 → b < 256 → c < 256 → d < 256 → e < 256 → f < 256 → g < 256 → h < 256
    → i < 256 → j < 256 → k < 256 → l < 256 → m < 256 → n < 256 → o < 256 → p < 256
    → p * 1329227995784915872903807060280344576 + o * 5192296858534827628530496329220096 + n * 20282409603651670423947251286016
    + m * 79228162514264337593543950336 + l * 309485009821345068724781056 + k * 1208925819614629174706176 + j * 4722366482869645213696
    + i * 18446744073709551616 + h * 72057594037927936 + g * 281474976710656 + f * 1099511627776 + e * 4294967296 + d * 16777216
    + c * 65536 + b * 256 + a < 2 ^ 128
below a b c d e f g h i j k l m n o p a' b' c' d' e' f' g' h' i' j' k' l' m' n' o' p' = omega arith

fits : (bytes : List ℕ) → IsBytes bytes → IsNonce (from_be_bytes w128 bytes)
fits bytes are =
    below _ _ _ _ _ _ _ _ _ _ _ _ _ _ _ _ (are 15) (are 14) (are 13) (are 12) (are 11) (are 10) (are 9) (are 8) (are 7) (are 6) (are 5) (are 4) (are 3) (are 2)
    (are 1) (are 0)

-- ---- Digits

above : (b byte : ℕ) → byte < 48 → nat_lt 47 b ≡ true → (b == byte) ≡ false
above b byte low h = grind (arith, nat_tests)

-- a word all of whose bytes are above those of `/`
pub high_word : (byte : ℕ) → byte < 48 → (word : List ℕ) → list_all (nat_lt 47) word ≡ true → IsFree byte word
high_word byte low word h =
    All-weaker (λ b. nat_lt 47 b ≡ true) (λ b. (b == byte) ≡ false) (λ b. above b byte low) word (AllPass-from_list_all (nat_lt 47) word h)

-- and another text after it
pub worded : (word rest : List ℕ) → list_all (nat_lt 47) word ≡ true → IsFree 10 rest → IsFree 10 (word ++ 32 ∷ rest)
worded word rest h free =
    All-append (λ b. (b == 10) ≡ false) word (32 ∷ rest) (high_word 10 (lit< tt) word h) (All-cons (λ b. (b == 10) ≡ false) 32 rest refl free)

digit_free : (byte : ℕ) → 0 < byte → byte < 48 → (i : ℕ) → (slice_index lower_digits i == byte) ≡ false
digit_free byte some low i =
    elim (cases_lt i 16) [
      | inl within ↦ above (slice_index lower_digits i) byte low (AllPass-from_list_all (nat_lt 47) lower_digits refl i 0 within)
      | inr past ↦ rw (get_or_past lower_digits i 0 past) (ne_eqb 0 byte (omega arith))
    ]

-- no byte below that of `0` is among digits
pub digits_free : (byte : ℕ) → 0 < byte → byte < 48 → (bytes : List ℕ) → IsFree byte (encode_with lower_digits bytes)
unfolding encode_with
digits_free byte some low [] = All-nil (λ b. (b == byte) ≡ false)
digits_free byte some low (b ∷ rest) =
    All-cons (λ b. (b == byte) ≡ false) (slice_index lower_digits (b / 16)) (slice_index lower_digits (b % 16) ∷ encode_with lower_digits rest)
    (digit_free byte some low (b / 16))
    (All-cons (λ b. (b == byte) ≡ false) (slice_index lower_digits (b % 16)) (encode_with lower_digits rest) (digit_free byte some low (b % 16))
    (digits_free byte some low rest))

-- ---- Nonces

pub nonce_free : (byte : ℕ) → 0 < byte → byte < 48 → (nonce : ℕ) → IsFree byte (nonce_text nonce)
unfolding nonce_text
nonce_free byte some low nonce = digits_free byte some low (to_be_bytes w128 nonce)

nonce_only : (digits : List ℕ) (d : Result (List ℕ) FromHexError) → decode_sized digits 16 ≡ d → (nonce : ℕ) → nonce_by digits d ≡ Some nonce
    → IsNonce nonce × (digits ≡ nonce_text nonce)
nonce_only digits (Err fault) is nonce e = absurd cc
nonce_only digits (Ok bytes) is nonce e =
    elim (cases_Bool (bytes_eq digits (nonce_text (from_be_bytes w128 bytes)))) [
      | inl same_text ↦
          let same : from_be_bytes w128 bytes ≡ nonce = same_Some _ _ (rw same_text at e) in
          let long = decode_sized-ok digits 16 bytes is in
          let ok = decode_of-ok digits bytes (sym (decode_sized-twice digits 16 long) ∙ is) in
          (subst IsNonce same (fits bytes ok.3), (bytes_eq-Decides digits (nonce_text (from_be_bytes w128 bytes))).0 same_text ∙ ap nonce_text same)
      | inr other ↦ absurd (let clash : None ≡ Some nonce = rw other at e in cc)
    ]

bytes_of : (nonce : ℕ) → decode_sized (nonce_text nonce) 16 ≡ Ok (to_be_bytes w128 nonce)
unfolding nonce_text
bytes_of nonce = decode_sized-encode_lower (to_be_bytes w128 nonce) 16 refl (are_bytes (to_be_bytes w128 nonce) (high_first 16 nonce))

nonce_each : (nonce : ℕ) → IsNonce nonce → nonce_of (nonce_text nonce) ≡ Some nonce
unfolding nonce_of
nonce_each nonce small =
    let same : bytes_eq (nonce_text nonce) (nonce_text nonce) ≡ true = (bytes_eq-Decides (nonce_text nonce) (nonce_text nonce)).1 refl in
    rw (bytes_of nonce, again nonce small, same)

read_only : (digits : List ℕ) (nonce : ℕ) → nonce_of digits ≡ Some nonce → IsNonce nonce × (digits ≡ nonce_text nonce)
unfolding nonce_of
read_only digits nonce e = nonce_only digits (decode_sized digits 16) refl nonce e

pub reads_nonce : ReadsField nonce_of IsNonce nonce_text
reads_nonce = record {
  reads = record { only = read_only; each = nonce_each; no_feed = λ nonce small. nonce_free 10 (lit< tt) (lit< tt) nonce };
  no_space = λ nonce small. nonce_free 32 (lit< tt) (lit< tt) nonce;
}

-- ---- By decoding

pub encoded : (nonce : ℕ) (bytes : List ℕ) → bytes ≡ to_be_bytes w128 nonce → encode_lower bytes ≡ nonce_text nonce
unfolding nonce_text
encoded nonce bytes is = ap encode_lower is

pub undecoded : (digits : List ℕ) → ((bytes : List ℕ) → decode_sized digits 16 ≡ Ok bytes → ⊥) → (nonce : ℕ) → IsNonce nonce → digits ≡ nonce_text nonce → ⊥
undecoded digits none nonce small is = none (to_be_bytes w128 nonce) (ap (λ (d : List ℕ). decode_sized d 16) is ∙ bytes_of nonce)

pub another : (digits bytes : List ℕ) (number : ℕ) → decode_sized digits 16 ≡ Ok bytes → number ≡ from_be_bytes w128 bytes → (nonce_text number ≡ digits → ⊥)
    → (nonce : ℕ) → IsNonce nonce → digits ≡ nonce_text nonce → ⊥
another digits bytes number decoded is other nonce small written =
    let both : Ok bytes ≡ Ok (to_be_bytes w128 nonce) = sym decoded ∙ (ap (λ (d : List ℕ). decode_sized d 16) written ∙ bytes_of nonce) in
    let same : bytes ≡ to_be_bytes w128 nonce = ap (λ (r : Result (List ℕ) FromHexError). result_unwrap_or r []) both in
    let numbers : number ≡ nonce = is ∙ (ap (from_be_bytes w128) same ∙ again nonce small) in
    other (ap nonce_text numbers ∙ sym written)

pub none_read : (digits : List ℕ) → ((nonce : ℕ) → IsNonce nonce → digits ≡ nonce_text nonce → ⊥) → None ≡ nonce_of digits
none_read digits none =
    elim (cases_Option (nonce_of digits)) [
      | inl is ↦ sym is
      | inr (nonce, is) ↦ let h = read_only digits nonce is in absurd (none nonce h.0 h.1)
    ]

pub some_read : (digits : List ℕ) (nonce : ℕ) → IsNonce nonce → nonce_text nonce ≡ digits → Some nonce ≡ nonce_of digits
some_read digits nonce small is = sym (ap nonce_of (sym is) ∙ nonce_each nonce small)
