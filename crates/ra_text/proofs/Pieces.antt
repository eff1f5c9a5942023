-- Bytes that are read in pieces.
use Rattle.std.proofs.Common.{◌≡◌, ◌<◌, ◌≤◌, ◌+◌, ◌-◌, ℕ, List, [], ◌++◌, length, take, drop, min, Option, Some, None, Result, Ok, Err, arith, refl, sym, ap, ◌∙◌, subst}
use Rattle.std.specs.Prelude.{IsErrAnd, IsErrOf, IfOk}
use Rattle.std.proofs.lemmas.List.{append_assoc, append-nil, length-append, length-take-le, length-drop, take-append-le}
use Rattle.std.specs.Io.KnownBytes.{Consumes, IsAtEnd, Keeps}
use Rattle.ra_text.specs.declared.error.ReadFault.{ReadFault}
use Rattle.ra_text.specs.declared.error.ReadFault.TheVariants.{Read, Memory}
use Rattle.ra_text.specs.Input.{Reads}

-- bytes that are taken after others are taken with them
pub consumed_both : (old mid new : Option (List ℕ)) (first second : List ℕ) → Consumes old mid first → Consumes mid new second
    → Consumes old new (first ++ second)
consumed_both None mid new first second a b = tt
consumed_both (Some xs) None new first second a b = absurd a
consumed_both (Some xs) (Some ys) None first second a b = absurd b
consumed_both (Some xs) (Some ys) (Some zs) first second a b =
    a ∙ ap (λ (rest : List ℕ). first ++ rest) b ∙ sym (append_assoc first second zs)

-- no byte is taken from a reader that stays as it is
pub consumed_none : (old : Option (List ℕ)) → Consumes old old []
consumed_none None = tt
consumed_none (Some xs) = refl

-- a reader that gave bytes and kept the others since has given them
pub consumed_before : (old mid new : Option (List ℕ)) (bytes : List ℕ) → Consumes old mid bytes → Keeps mid new → Consumes old new bytes
consumed_before None mid new bytes a b = tt
consumed_before (Some xs) None new bytes a b = absurd a
consumed_before (Some xs) (Some ys) None bytes a b = absurd b
consumed_before (Some xs) (Some ys) (Some zs) bytes a b = a ∙ ap (λ (rest : List ℕ). bytes ++ rest) (sym b)

-- an exit with a fault has no value
pub no_bytes : {T : Type 0} (r : Result T ReadFault) (P : ReadFault → Type 0) (Q : T → Type 0) → IsErrAnd r P → IfOk r Q
no_bytes (Ok v) P Q h = absurd h
no_bytes (Err e) P Q h = tt

-- a value is no fault
pub no_fault : {T E : Type 0} {v : T} {e : E} → ◌≡◌ {A = Result T E} (Ok v) (Err e) → ⊥
no_fault is = absurd cc

-- and if that is for lack of memory, it is not that the reader failed
pub not_read : {T : Type 0} (r : Result T ReadFault) → IsErrAnd r (λ e. e ≡ Memory) → IsErrOf r Read → ⊥
not_read (Ok v) h is = absurd h
not_read (Err e) h is = let same : e ≡ Read = cc in absurd cc

pub is_read : {T : Type 0} (r : Result T ReadFault) (fault : ReadFault) → IsErrAnd r (λ e. e ≡ fault) → fault ≡ Read → IsErrOf r Read
is_read (Ok v) fault h is = absurd h
is_read (Err e) fault h is = ap Err (h ∙ is)

-- a room for the next bytes, which is a prefix of a larger one
pub record IsRoom (room : List ℕ) (most : ℕ) : Type 0 where
  pub fits : most ≤ length room
  pub long : most ≡ length (take most room)
  pub some : 0 < length (take most room)

pub is_room : (room : List ℕ) (left most : ℕ) → length room ≡ 512 → (left ≡ 0 → ⊥) → most ≡ min left 512 → IsRoom room most
is_room room left most r some m =
    let fits : most ≤ length room = omega (arith, r, m) in
    let long : length (take most room) ≡ most = length-take-le most room fits in
    record { fits = fits; long = sym long; some = omega (arith, long, m, some) }

-- fewer bytes than the limit were read if there is room for more
pub less_than : (bytes : List ℕ) (limit len : ℕ) → len ≡ length bytes → (limit - len ≡ 0 → ⊥) → length bytes < limit
less_than bytes limit len l some = omega (arith, l, some)

-- each turn so far brought a byte or more, and so does one more
pub one_turn_more : (turn before after count : ℕ) → after ≡ before + count → (count ≡ 0 → ⊥) → turn ≤ before → turn + 1 ≤ after
one_turn_more turn before after count more some so_far = omega (arith, more, some, so_far)

-- as many turns as the limit brought as many bytes
pub all_turns : (turn limit : ℕ) (bytes : List ℕ) → limit ≤ turn → turn ≤ length bytes → limit ≤ length bytes
all_turns turn limit bytes over so_far = omega (arith, over, so_far)

-- as many bytes as the limit were read if there is no room for more
pub no_room : (limit len : ℕ) (bytes : List ℕ) → len ≡ length bytes → limit - len ≡ 0 → limit ≤ length bytes
no_room limit len bytes l none = omega (arith, l, none)

-- what was read if as many bytes as the limit came
pub reads_all : (old new : Option (List ℕ)) (limit : ℕ) (bytes : List ℕ) → Consumes old new bytes → length bytes ≤ limit → limit ≤ length bytes
    → Reads old new limit bytes
reads_all old new limit bytes taken at_most full = record { taken = taken; at_most = at_most; ended = λ less. absurd (omega (arith, full, less)) }

-- what was read if the reader gave no more
pub reads_to_end : (old mid new : Option (List ℕ)) (limit count : ℕ) (bytes buffer : List ℕ) → Consumes old mid bytes → length bytes ≤ limit
    → Consumes mid new (take count buffer) → count ≡ 0 → (count ≡ 0 → IsAtEnd new) → Reads old new limit bytes
reads_to_end old mid new limit count bytes buffer taken at_most more zero ends =
    let none : Consumes mid new [] = subst (λ (n : ℕ). Consumes mid new (take n buffer)) zero more in
    record {
      taken = subst (Consumes old new) (append-nil bytes) (consumed_both old mid new bytes [] taken none);
      at_most = at_most;
      ended = λ less. ends zero;
    }

-- what came after the bytes before
pub then_came : (before added came after : List ℕ) → after ≡ before ++ added → added ≡ came → after ≡ before ++ came
then_came before added came after is same = is ∙ ap (λ (bytes : List ℕ). before ++ bytes) same

-- this many bytes of a buffer, which was a prefix of a room, were read after others
pub record IsPiece (before room buffer : List ℕ) (limit most count : ℕ) : Type 0 where
  pub long : length (before ++ take count buffer) ≡ length before + count
  pub at_most : length (before ++ take count buffer) ≤ limit
  pub same : take count (buffer ++ drop most room) ≡ take count buffer
  pub fits : count ≤ length (buffer ++ drop most room)
  pub is_all : count ≡ length (take count (buffer ++ drop most room))
  pub room_stays : length (buffer ++ drop most room) ≡ length room

pub is_piece : (before room buffer : List ℕ) (limit most count len : ℕ) → length room ≡ 512 → length before ≤ limit
    → len ≡ length before → most ≡ min (limit - len) 512 → length buffer ≡ length (take most room) → count ≤ length (take most room)
    → IsPiece before room buffer limit most count
is_piece before room buffer limit most count len r at_most l m same some =
    let prefix_long : length (take most room) ≡ most = length-take-le most room (omega (arith, m, r)) in
    let long : length (take count buffer) ≡ count = length-take-le count buffer (omega (arith, same, some)) in
    let both : length (before ++ take count buffer) ≡ length before + length (take count buffer) = length-append before (take count buffer) in
    let whole : length (buffer ++ drop most room) ≡ length room = omega (arith, length-append buffer (drop most room), length-drop most room, same, prefix_long, m, r) in
    let fits : count ≤ length (buffer ++ drop most room) = omega (arith, whole, some, prefix_long, m, r) in
    record {
      long = omega (arith, both, long);
      at_most = omega (arith, both, long, prefix_long, some, l, m, at_most);
      same = take-append-le count buffer (drop most room) (omega (arith, same, some));
      fits = fits;
      is_all = sym (length-take-le count (buffer ++ drop most room) fits);
      room_stays = whole;
    }
