-- What is shown of a line, and what is kept of it.
use Rattle.std.proofs.Common.{◌≡◌, ℕ, zero, suc, ◌+◌, ◌-◌, ◌≤◌, min, Bool, true, false, List, [], ◌∷◌, ◌++◌, length, take, refl, sym, ap, subst, ◌∙◌, append_assoc, length-append, add-one, arith, Option, Result, Ok, Err}
use Rattle.std.proofs.Math.Seq.{take-append_seam}
use Rattle.std.specs.Prelude.{IsErrAnd, replicate}
use Rattle.std.proofs.lemmas.List.{append-nil}
use Rattle.std.specs.Io.KnownBytes.{Consumes}
use Rattle.std.proofs.KnownBytes.{Consumes-trans}
use Rattle.ra_serve.specs.declared.line_input.Piece.{Piece}
use Rattle.ra_serve.specs.declared.line_input.Piece.TheVariants.{Part, Over, End}
use Rattle.ra_serve.specs.declared.line_input.TakenBytes.{TakenBytes}
use Rattle.ra_text.specs.declared.error.ReadFault.{ReadFault}
use Rattle.ra_text.specs.declared.error.ReadFault.TheVariants.{Read}
use Rattle.ra_serve.specs.Input.{IsKept, IsPiece, Keeps, TakesShown, TakesPiece}

-- ---- The first bytes

-- the first bytes of two parts are those of the first one, and as many of the second as there is room for
pub take_two : {A : Type 0} (m : ℕ) (xs ys : List A) → take m xs ++ take (m - length (take m xs)) ys ≡ take m (xs ++ ys)
take_two zero xs ys = refl
take_two (suc m) [] ys = let e : suc m - 0 ≡ suc m = omega arith in ap (λ n. take n ys) e
take_two (suc m) (x ∷ xs) ys =
    let e : suc m - suc (length (take m xs)) ≡ m - length (take m xs) = omega arith in
    ap (λ n. x ∷ (take m xs ++ take n ys)) e ∙ ap (λ zs. x ∷ zs) (take_two m xs ys)

-- more than all is all
pub take_min : {A : Type 0} (m n : ℕ) (xs : List A) → n ≡ min (length xs) m → take n xs ≡ take m xs
take_min zero zero [] is = refl
take_min zero (suc n) [] is = refl
take_min (suc m) zero [] is = refl
take_min (suc m) (suc n) [] is = refl
take_min zero zero (x ∷ xs) is = refl
take_min zero (suc n) (x ∷ xs) is = absurd (omega (arith, is))
take_min (suc m) zero (x ∷ xs) is = absurd (omega (arith, is))
take_min (suc m) (suc n) (x ∷ xs) is = ap (λ zs. x ∷ zs) (take_min m n xs (omega (arith, is)))

pub kept_more : (text bytes more : List ℕ) (count : ℕ) → IsKept text bytes → count ≡ min (length more) (4608 - length bytes) → IsKept (text ++ more) (bytes ++ take count more)
kept_more text bytes more count kept is =
    let first : take count more ≡ take (4608 - length bytes) more = take_min (4608 - length bytes) count more is in
    ap (λ zs. bytes ++ zs) first
    ∙ ap (λ (zs : List ℕ). zs ++ take (4608 - length zs) more) kept
    ∙ take_two 4608 text more

-- ---- A line that is over within what is shown

pub over_shown : (shown part rest : List ℕ) → shown ≡ part ++ 10 ∷ rest → take (length part + 1) shown ≡ part ++ 10 ∷ []
over_shown shown part rest is =
    let long : length part + 1 ≡ length (part ++ 10 ∷ []) = sym (length-append part (10 ∷ [])) in
    let whole : shown ≡ (part ++ 10 ∷ []) ++ rest = is ∙ sym (append_assoc part (10 ∷ []) rest) in
    rw (long, whole) (take-append_seam (part ++ 10 ∷ []) rest)

pub over_within : (shown part rest : List ℕ) → shown ≡ part ++ 10 ∷ rest → length part + 1 ≤ length shown
over_within shown part rest is = omega (arith, ap length is, length-append part (10 ∷ rest))

empty : (bytes : List ℕ) → length bytes ≡ 0 → bytes ≡ []
empty [] h = refl
empty (b ∷ bytes) h = absurd (omega (arith, h))

-- nothing is kept, and then this
after : (line kept line' part : List ℕ) → Keeps line kept [] → Keeps kept line' part → Keeps line line' part
after line kept line' part none more text h = more text (subst (λ (t : List ℕ). IsKept t kept) (append-nil text) (none text h))

-- ---- A piece of what is shown

pub is_over : (old new : Option (List ℕ)) (line line' : List ℕ) (taken : TakenBytes) → taken.is_over ≡ true → TakesShown old new line line' (Ok taken)
    → TakesPiece old new line line' (Ok Over)
is_over old new line line' taken over h =
    let piece : IsPiece h.0 true h.1 = subst (λ (b : Bool). IsPiece h.0 b h.1) over h.4 in
    (h.1, subst (Consumes old new) piece.0 h.2, piece.1, h.5)

pub is_part : (old new : Option (List ℕ)) (line line' : List ℕ) (taken : TakenBytes) → taken.is_over ≡ false → 1 ≤ taken.count
    → TakesShown old new line line' (Ok taken) → TakesPiece old new line line' (Ok Part)
is_part old new line line' taken goes_on some h =
    let piece : IsPiece h.0 false h.1 = subst (λ (b : Bool). IsPiece h.0 b h.1) goes_on h.4 in
    (h.1, subst (Consumes old new) piece.0 h.2, piece.1, omega (arith, some, h.3, ap length piece.0), h.5)

-- nothing, and then a piece
none_first : (old mid new : Option (List ℕ)) (line kept line' : List ℕ) (r : Result Piece ReadFault) → Consumes old mid [] → Keeps line kept []
    → TakesPiece mid new kept line' r → TakesPiece old new line line' r
none_first old mid new line kept line' (Ok Part) none keeps (part, took, free, some, more) =
    (part, Consumes-trans old mid new [] part none took, free, some, after line kept line' part keeps more)
none_first old mid new line kept line' (Ok Over) none keeps p = (p.0, Consumes-trans old mid new [] (p.0 ++ 10 ∷ []) none p.1, p.2, after line kept line' p.0 keeps p.3)
none_first old mid new line kept line' (Ok End) none keeps p = (Consumes-trans old mid new [] [] none p.0, p.1, after line kept line' [] keeps p.2)
none_first old mid new line kept line' (Err fault) none keeps p = (p.0, Consumes-trans old mid new [] [] none p.1)

pub is_more : (old mid new : Option (List ℕ)) (line kept line' : List ℕ) (taken : TakenBytes) (r : Result Piece ReadFault) → taken.is_over ≡ false → taken.count ≡ 0
    → TakesShown old mid line kept (Ok taken) → TakesPiece mid new kept line' r → TakesPiece old new line line' r
is_more old mid new line kept line' taken r goes_on nothing h p =
    let piece : IsPiece h.0 false h.1 = subst (λ (b : Bool). IsPiece h.0 b h.1) goes_on h.4 in
    let none : h.0 ≡ [] = empty h.0 (h.3 ∙ nothing) in
    none_first old mid new line kept line' r (subst (Consumes old mid) none h.2) (subst (Keeps line kept) (sym piece.0 ∙ none) h.5) p

-- nothing is taken if the reader failed
pub no_piece : (old new : Option (List ℕ)) (line line' : List ℕ) (fault : ReadFault) → fault ≡ Read → Consumes old new [] → (r : Result Piece ReadFault)
    → IsErrAnd r (λ x. x ≡ fault) → TakesPiece old new line line' r
no_piece old new line line' fault is none (Ok piece) h = absurd h
no_piece old new line line' fault is none (Err x) h = (h ∙ is, none)

-- ---- Lists of the same

replicate_suc : {A : Type 0} (n : ℕ) (x : A) → replicate n x ++ x ∷ [] ≡ replicate (suc n) x
replicate_suc zero x = refl
replicate_suc (suc n) x = ap (λ xs. x ∷ xs) (replicate_suc n x)

pub replicate_more : {A : Type 0} (n : ℕ) (x : A) → replicate n x ++ x ∷ [] ≡ replicate (n + 1) x
replicate_more n x = replicate_suc n x ∙ ap (λ k. replicate k x) (sym (add-one n))
