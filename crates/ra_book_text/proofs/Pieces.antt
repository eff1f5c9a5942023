-- What is shown of a line, and what is kept of it.
use Rattle.std.proofs.Common.{◌≡◌, ◌≢◌, ℕ, ◌+◌, ◌<◌, ◌≤◌, Bool, true, false, List, [], ◌∷◌, ◌++◌, length, take, refl, sym, ap, subst, ◌∙◌, append_assoc, length-append, arith, Option, Result, Ok, Err}
use Rattle.std.proofs.Math.Seq.{take-append_seam}
use Rattle.std.proofs.lemmas.Bool.{false≢true}
use Rattle.std.specs.Prelude.{IsErrAnd}
use Rattle.std.specs.Result.{is_err, is_ok}
use Rattle.std.proofs.lemmas.List.{append-nil}
use Rattle.std.proofs.lemmas.List.Elements.{All-nil, All-append}
use Rattle.std.specs.Io.KnownBytes.{Consumes}
use Rattle.std.proofs.KnownBytes.{Consumes-nil, Consumes-trans}
use Rattle.ra_book_text.specs.declared.next_line.kept_line.KeptLine.{KeptLine}
use Rattle.ra_book_text.specs.declared.next_line.input_piece.Piece.{Piece}
use Rattle.ra_book_text.specs.declared.next_line.input_piece.Piece.TheVariants.{Part, Over, End}
use Rattle.ra_book_text.specs.declared.next_line.input_piece.TakenBytes.{TakenBytes}
use Rattle.ra_text.specs.declared.error.ReadFault.{ReadFault}
use Rattle.ra_text.specs.declared.error.ReadFault.TheVariants.{Read}
use Rattle.ra_book_text.specs.Input.{HasNoFeed, IsKeptLine, IsPiece, Keeps, TakesShown, TakesPiece, TakesLine, TakesOpen}

-- more bytes than there is room for
pub too_many : (text bytes more : List ℕ) → IsKeptLine text bytes false → 256 < length bytes + length more → IsKeptLine (text ++ more) bytes true
too_many text bytes more kept many = omega (arith, many, ap length kept, length-append text more)

-- there is no room for more bytes
pub no_room : {E : Type 0} (r : Result (Unit {0}) E) (used more : ℕ) → is_err r ≡ true → (used + more ≤ 256 → is_ok r ≡ true) → 256 < used + more
no_room (Ok done) used more err fits = absurd (false≢true err)
no_room (Err fault) used more err fits =
    let past : used + more ≤ 256 → ⊥ = λ within. false≢true (fits within) in
    omega (arith, past)

pub longer : (text bytes more : List ℕ) → IsKeptLine text bytes true → IsKeptLine (text ++ more) bytes true
longer text bytes more long = omega (arith, long, length-append text more)

-- a line that is over within what is shown
pub over_shown : (shown part rest : List ℕ) → shown ≡ part ++ 10 ∷ rest → take (length part + 1) shown ≡ part ++ 10 ∷ []
over_shown shown part rest is =
    let long : length part + 1 ≡ length (part ++ 10 ∷ []) = sym (length-append part (10 ∷ [])) in
    let whole : shown ≡ (part ++ 10 ∷ []) ++ rest = is ∙ sym (append_assoc part (10 ∷ []) rest) in
    rw (long, whole) (take-append_seam (part ++ 10 ∷ []) rest)

pub over_within : (shown part rest : List ℕ) → shown ≡ part ++ 10 ∷ rest → length part + 1 ≤ length shown
over_within shown part rest is = omega (arith, ap length is, length-append part (10 ∷ rest))

empty : (bytes : List ℕ) → length bytes ≡ 0 → bytes ≡ []
empty [] h = refl
empty (b ∷ bytes) h = absurd (omega (arith, h))

-- nothing is kept, and then this
after : (line kept line' : KeptLine) (part : List ℕ) → Keeps line kept [] → Keeps kept line' part → Keeps line line' part
after line kept line' part none more text h = more text (subst (λ (t : List ℕ). IsKeptLine t kept.bytes.items kept.is_long) (append-nil text) (none text h))

-- ---- Pieces of a line

-- these bytes of a line came so far, and this is kept of them
abbrev pub HasSome : Option (List ℕ) → Option (List ℕ) → KeptLine → ℕ → Type 0
HasSome old now line turns =
    (text : List ℕ) × Consumes old now text × HasNoFeed text × IsKeptLine text line.bytes.items line.is_long × (turns ≤ length text)

pub no_bytes : (old : Option (List ℕ)) (line : KeptLine) → IsKeptLine [] line.bytes.items line.is_long → HasSome old old line 0
no_bytes old line kept = ([], Consumes-nil old, All-nil (λ byte. byte ≢ 10), kept, omega arith)

pub part_more : (old mid new : Option (List ℕ)) (line line' : KeptLine) (turns : ℕ) → HasSome old mid line turns
    → TakesPiece mid new line line' (Ok Part) → HasSome old new line' (turns + 1)
part_more old mid new line line' turns (text, took, free, kept, many) (part, took', free', some, keeps) = (
  text ++ part,
  Consumes-trans old mid new text part took took',
  All-append (λ byte. byte ≢ 10) text part free free',
  keeps text kept,
  omega (arith, many, some, length-append text part),
)

pub over_more : (old mid new : Option (List ℕ)) (line line' : KeptLine) (turns : ℕ) → HasSome old mid line turns
    → TakesPiece mid new line line' (Ok Over) → TakesLine old new line'
over_more old mid new line line' turns h p = (
  h.0 ++ p.0,
  subst (Consumes old new) (sym (append_assoc h.0 p.0 (10 ∷ []))) (Consumes-trans old mid new h.0 (p.0 ++ 10 ∷ []) h.1 p.1),
  All-append (λ byte. byte ≢ 10) h.0 p.0 h.2 p.2,
  p.3 h.0 h.3,
)

pub open_of : (old now : Option (List ℕ)) (line : KeptLine) (turns : ℕ) → HasSome old now line turns → TakesOpen old now
open_of old now line turns h = (h.0, h.1, h.2)

pub open_more : (old mid new : Option (List ℕ)) (line : KeptLine) (turns : ℕ) → HasSome old mid line turns → Consumes mid new [] → TakesOpen old new
open_more old mid new line turns h none =
    (h.0, subst (Consumes old new) (append-nil h.0) (Consumes-trans old mid new h.0 [] h.1 none), h.2)

-- ---- A piece of what is shown

pub is_over : (old new : Option (List ℕ)) (line line' : KeptLine) (taken : TakenBytes) → taken.is_over ≡ true → TakesShown old new line line' (Ok taken)
    → TakesPiece old new line line' (Ok Over)
is_over old new line line' taken over h =
    let piece : IsPiece h.0 true h.1 = subst (λ (b : Bool). IsPiece h.0 b h.1) over h.4 in
    (h.1, subst (Consumes old new) piece.0 h.2, piece.1, h.5)

pub is_part : (old new : Option (List ℕ)) (line line' : KeptLine) (taken : TakenBytes) → taken.is_over ≡ false → 1 ≤ taken.count
    → TakesShown old new line line' (Ok taken) → TakesPiece old new line line' (Ok Part)
is_part old new line line' taken goes_on some h =
    let piece : IsPiece h.0 false h.1 = subst (λ (b : Bool). IsPiece h.0 b h.1) goes_on h.4 in
    (h.1, subst (Consumes old new) piece.0 h.2, piece.1, omega (arith, some, h.3, ap length piece.0), h.5)

-- nothing, and then a piece
none_first : (old mid new : Option (List ℕ)) (line kept line' : KeptLine) (r : Result Piece ReadFault) → Consumes old mid [] → Keeps line kept []
    → TakesPiece mid new kept line' r → TakesPiece old new line line' r
none_first old mid new line kept line' (Ok Part) none keeps (part, took, free, some, more) =
    (part, Consumes-trans old mid new [] part none took, free, some, after line kept line' part keeps more)
none_first old mid new line kept line' (Ok Over) none keeps p = (p.0, Consumes-trans old mid new [] (p.0 ++ 10 ∷ []) none p.1, p.2, after line kept line' p.0 keeps p.3)
none_first old mid new line kept line' (Ok End) none keeps p = (Consumes-trans old mid new [] [] none p.0, p.1, after line kept line' [] keeps p.2)
none_first old mid new line kept line' (Err fault) none keeps p = (p.0, Consumes-trans old mid new [] [] none p.1)

pub is_more : (old mid new : Option (List ℕ)) (line kept line' : KeptLine) (taken : TakenBytes) (r : Result Piece ReadFault) → taken.is_over ≡ false → taken.count ≡ 0
    → TakesShown old mid line kept (Ok taken) → TakesPiece mid new kept line' r → TakesPiece old new line line' r
is_more old mid new line kept line' taken r goes_on zero h p =
    let piece : IsPiece h.0 false h.1 = subst (λ (b : Bool). IsPiece h.0 b h.1) goes_on h.4 in
    let none : h.0 ≡ [] = empty h.0 (h.3 ∙ zero) in
    none_first old mid new line kept line' r (subst (Consumes old mid) none h.2) (subst (Keeps line kept) (sym piece.0 ∙ none) h.5) p

-- nothing is taken if the reader failed
pub no_piece : (old new : Option (List ℕ)) (line line' : KeptLine) (fault : ReadFault) → fault ≡ Read → Consumes old new [] → (r : Result Piece ReadFault)
    → IsErrAnd r (λ x. x ≡ fault) → TakesPiece old new line line' r
no_piece old new line line' fault is none (Ok piece) h = absurd h
no_piece old new line line' fault is none (Err x) h = (h ∙ is, none)
