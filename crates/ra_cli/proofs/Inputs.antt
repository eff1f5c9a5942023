-- What a reader gave that was read up to a limit, and which line an input is.
use Rattle.std.proofs.Common.{◌≡◌, ◌≢◌, ◌⊎◌, ℕ, ◌<◌, ◌≤◌, List, [], ◌∷◌, ◌++◌, length, Bor, Option, Some, None, refl, sym, ap, subst, ◌∙◌, arith, inl, inr}
use Rattle.std.specs.Prelude.{All, IfSome, IfNone}
use Rattle.std.proofs.lemmas.Bool.{cases_lt}
use Rattle.std.proofs.lemmas.List.{append-nil, length-append}
use Rattle.std.proofs.lemmas.List.Elements.{All-head, All-tail}
use Rattle.ra_text.specs.Input.{Reads}
use Rattle.ra_cli.specs.Line.{IsLine}

-- all of the input was read, or as many bytes as may be
pub record IsRead (limit : ℕ) (input taken : List ℕ) (new : Option (List ℕ)) : Type 0 where
  pub how : ((input ≡ taken) × (new ≡ Some [])) ⊎ ((limit ≤ length taken) × (limit ≤ length input))

pub is_read : (limit : ℕ) (input rest taken : List ℕ) → Reads (Some input) (Some rest) limit taken → IsRead limit input taken (Some rest)
is_read limit input rest taken h =
    elim (cases_lt (length taken) limit) [
      | inl short ↦
          let nothing : rest ≡ [] = h.ended short in
          record { how = inl (h.taken ∙ (ap (λ (xs : List ℕ). taken ++ xs) nothing ∙ append-nil taken), ap Some nothing) }
      | inr long ↦ record { how = inr (long, omega (arith, ap length h.taken, length-append taken rest)) }
    ]

-- ---- The line of an input

-- bytes without a line feed, and a line feed after them
once : (part rest line more : List ℕ) → All (λ byte. byte ≢ 10) part → All (λ byte. byte ≢ 10) line → part ++ 10 ∷ rest ≡ line ++ 10 ∷ more
    → (part ≡ line) × (rest ≡ more)
once [] rest [] more free none e = (refl, (cc))
once [] rest (y ∷ ys) more free none e = absurd (All-head (λ byte. byte ≢ 10) y ys none (let same : y ≡ 10 = cc in same))
once (x ∷ xs) rest [] more free none e = absurd (All-head (λ byte. byte ≢ 10) x xs free (let same : x ≡ 10 = cc in same))
once (x ∷ xs) rest (y ∷ ys) more free none e =
    let heads : x ≡ y = cc in
    let tails : xs ++ 10 ∷ rest ≡ ys ++ 10 ∷ more = cc in
    let (same, left) =
    once xs rest ys more (All-tail (λ byte. byte ≢ 10) x xs free) (All-tail (λ byte. byte ≢ 10) y ys none) tails
    in
    ((cc), left)

feed_within : (part rest : List ℕ) → All (λ byte. byte ≢ 10) (part ++ 10 ∷ rest) → ⊥
feed_within [] rest h = All-head (λ byte. byte ≢ 10) 10 rest h refl
feed_within (x ∷ xs) rest h = feed_within xs rest (All-tail (λ byte. byte ≢ 10) x (xs ++ 10 ∷ rest) h)

-- the line of an input that ends with its only line feed
pub line_before : (input part rest line : List ℕ) → All (λ byte. byte ≢ 10) part → input ≡ part ++ 10 ∷ rest → IsLine input line
    → (part ≡ line) × (rest ≡ [])
line_before input part rest line free is h =
    elim h.whole [
      | inl same ↦ absurd (feed_within part rest (subst (All (λ byte. byte ≢ 10)) (sym same ∙ is) h.no_feed))
      | inr feed ↦ once part rest line [] free h.no_feed (sym is ∙ feed)
    ]

-- the line of an input that has none
line_whole : (input line : List ℕ) → All (λ byte. byte ≢ 10) input → IsLine input line → input ≡ line
line_whole input line free h =
    elim h.whole [
      | inl same ↦ same
      | inr feed ↦ absurd (feed_within line [] (subst (All (λ byte. byte ≢ 10)) feed free))
    ]

-- an input whose first line feed comes after more than 256 bytes, or which has as many and none
pub no_short_line : (input part : List ℕ) (after : Option (Bor (List ℕ))) → All (λ byte. byte ≢ 10) part
    → IfSome after (λ rest. input ≡ part ++ 10 ∷ rest.now) → IfNone after (input ≡ part) → 256 < length part
    → (line : List ℕ) → IsLine input line → ⊥
no_short_line input part None free cut whole long line h =
    let same : input ≡ line = line_whole input line (subst (All (λ byte. byte ≢ 10)) (sym whole) free) h in
    let short : length line ≤ 256 = h.short in
    omega (arith, ap length (sym whole ∙ same), long, short)
no_short_line input part (Some rest) free cut whole long line h =
    let same : part ≡ line = (line_before input part rest.now line free cut h).0 in
    let short : length line ≤ 256 = h.short in
    omega (arith, ap length same, long, short)
