-- The room of outboxes, and what they have after some frames.
use Rattle.std.proofs.Common.{◌≡◌, inl, inr, ℕ, zero, suc, ◌+◌, ◌-◌, ◌<◌, ◌≤◌, Bool, true, false, ◌||◌, List, [], ◌∷◌, map, length, set, drop, get_or, refl, sym, ap, ◌∙◌, subst, arith}
use Rattle.std.specs.Prelude.{OnOk, Result, Ok, Err, is_err, nat_lt}
use Rattle.std.specs.VecDeque.{deque_len, deque_capacity}
use Rattle.std.proofs.lemmas.Bool.{cases_eq, lt-ltb, ltb-false}
use Rattle.std.proofs.lemmas.List.{at_drop_all, at_drop_more, get_or-set_other, get_or-set_same, length-set}
use Rattle.ra_stamp.specs.declared.memory.Memory.{Memory}
use Rattle.ra_stamp.specs.declared.message.Message.{Message}
use Rattle.ra_stamp.specs.Message.{to_of}
use Rattle.ra_frame.specs.declared.frame.Frame.{Frame}
use Rattle.ra_book.specs.History.{frames_at}
use Rattle.ra_link.specs.Link.{greatest}
use Rattle.ra_host.specs.declared.outbox.Outbox.{Outbox}
use Rattle.ra_host.specs.Full.{is_full, most_made}
use Rattle.ra_host.specs.Outgoing.{HasRoom, HaveRoom, HaveSpace, Outgoing, adds, adds_at, drops, drops_at, outgoing_of, posts}
use Rattle.ra_host.proofs.LinksHeld.{never_both}
use Rattle.ra_host.proofs.OutgoingKept.{not_below}

-- ---- Whether one is full

pub full_at : (xs : List Outbox) (i : ℕ) (x : Outbox) → i < length xs → x ≡ get_or xs i x
    → is_full (map outgoing_of (drop i xs)) ≡ (nat_lt greatest (x.made + most_made) || is_full (map outgoing_of (drop (i + 1) xs)))
full_at xs i x within read =
    at_drop_more (λ (ys : List Outbox). is_full (map outgoing_of ys)) xs i x within
    ∙ ap (λ (y : Outbox). nat_lt greatest (y.made + most_made) || is_full (map outgoing_of (drop (i + 1) xs))) (sym read)

pub full_here : (xs : List Outbox) (i : ℕ) (x : Outbox) → i < length xs → x ≡ get_or xs i x → is_full (map outgoing_of (drop i xs)) ≡ is_full (map outgoing_of xs)
    → greatest < x.made + most_made → true ≡ is_full (map outgoing_of xs)
full_here xs i x within read so_far full =
    sym (sym so_far ∙ full_at xs i x within read ∙ ap (λ (b : Bool). b || is_full (map outgoing_of (drop (i + 1) xs))) (lt-ltb greatest (x.made + most_made) full))

pub full_later : (xs : List Outbox) (i : ℕ) (x : Outbox) → i < length xs → x ≡ get_or xs i x → is_full (map outgoing_of (drop i xs)) ≡ is_full (map outgoing_of xs)
    → x.made + most_made ≤ greatest → is_full (map outgoing_of (drop (i + 1) xs)) ≡ is_full (map outgoing_of xs)
full_later xs i x within read so_far free =
    sym (ap (λ (b : Bool). b || is_full (map outgoing_of (drop (i + 1) xs))) (not_below greatest (x.made + most_made) free)) ∙ sym (full_at xs i x within read) ∙ so_far

pub full_none : (xs : List Outbox) (i : ℕ) → length xs ≤ i → is_full (map outgoing_of (drop i xs)) ≡ is_full (map outgoing_of xs) → false ≡ is_full (map outgoing_of xs)
full_none xs i past so_far = sym (at_drop_all (λ (ys : List Outbox). is_full (map outgoing_of ys)) xs i past) ∙ so_far

pub or_first : (a b : Bool) → (a || b) ≡ false → a ≡ false
or_first true b is = is
or_first false b is = refl

pub or_second : (a b : Bool) → (a || b) ≡ false → b ≡ false
or_second true b is = absurd (never_both is)
or_second false b is = is

-- if none is full, numbers are left for each
pub none_full : (xs : List Outbox) → is_full (map outgoing_of xs) ≡ false → (k : ℕ) (d : Outbox) → k < length xs → (get_or xs k d).made + most_made ≤ greatest
none_full [] free k d within = absurd (omega (arith, within))
none_full (x ∷ xs) free zero d within = ltb-false greatest (x.made + most_made) (or_first (nat_lt greatest (x.made + most_made)) (is_full (map outgoing_of xs)) free)
none_full (x ∷ xs) free (suc k) d within = none_full xs (or_second (nat_lt greatest (x.made + most_made)) (is_full (map outgoing_of xs)) free) k d (omega (arith, within))

pub have_room : (xs : List Outbox) (n : ℕ) → is_full (map outgoing_of xs) ≡ false → HaveSpace xs most_made → n ≤ most_made → HaveRoom xs n
have_room xs n free space few k d within = record {
  room = let s = space k d within in omega (arith, s, few);
  numbers = let s = none_full xs free k d within in omega (arith, s, few);
}

-- ---- Room is made

pub spaced_more : (xs : List Outbox) (i : ℕ) (y : Outbox) (n : ℕ) → i < length xs → ((k : ℕ) (d : Outbox) → k < i → deque_len (get_or xs k d).frames + n ≤ deque_capacity (get_or xs k d).frames)
    → deque_len y.frames + n ≤ deque_capacity y.frames
    → (k : ℕ) (d : Outbox) → k < i + 1 → deque_len (get_or (set xs i y) k d).frames + n ≤ deque_capacity (get_or (set xs i y) k d).frames
spaced_more xs i y n within space here k d low = elim (cases_eq k i) [
  | inl same ↦
      let at : get_or (set xs i y) k d ≡ y = ap (λ (m : ℕ). get_or (set xs i y) m d) same ∙ get_or-set_same xs i y d within in
      subst (λ (b : Outbox). deque_len b.frames + n ≤ deque_capacity b.frames) (sym at) here
  | inr differs ↦
      let at : get_or (set xs i y) k d ≡ get_or xs k d = get_or-set_other xs i k y d differs in
      subst (λ (b : Outbox). deque_len b.frames + n ≤ deque_capacity b.frames) (sym at) (space k d (omega (arith, low, differs)))
]

-- ---- Frames are added

pub added_at : (xs : List Outbox) (place : ℕ) (y d : Outbox) (f : Frame) → place < length xs → outgoing_of y ≡ adds (outgoing_of (get_or xs place d)) f
    → map outgoing_of (set xs place y) ≡ adds_at (map outgoing_of xs) place f
added_at [] place y d f within is = absurd (omega (arith, within))
added_at (x ∷ xs) zero y d f within is = ap (λ (o : Outgoing). o ∷ map outgoing_of xs) is
added_at (x ∷ xs) (suc place) y d f within is = ap (λ (os : List Outgoing). outgoing_of x ∷ os) (added_at xs place y d f (omega (arith, within)) is)

pub none_at : (xs : List Outbox) (place : ℕ) (f : Frame) → length xs ≤ place → map outgoing_of xs ≡ adds_at (map outgoing_of xs) place f
none_at [] place f past = refl
none_at (x ∷ xs) zero f past = absurd (omega (arith, past))
none_at (x ∷ xs) (suc place) f past = ap (λ (os : List Outgoing). outgoing_of x ∷ os) (none_at xs place f (omega (arith, past)))

-- the first of the messages that are left is added
pub posts_more : (os news : List Outgoing) (clock i : ℕ) (sends : List Message) (m : Message) → i < length sends → m ≡ get_or sends i m
    → news ≡ adds_at os (to_of m - 1) (record { clock = clock; message = m }) → posts news (frames_at clock (drop (i + 1) sends)) ≡ posts os (frames_at clock (drop i sends))
posts_more os news clock i sends m within read is =
    ap (λ (ns : List Outgoing). posts ns (frames_at clock (drop (i + 1) sends))) is
    ∙ ap (λ (x : Message). posts os (frames_at clock (x ∷ drop (i + 1) sends))) read
    ∙ sym (at_drop_more (λ (ms : List Message). posts os (frames_at clock ms)) sends i m within)

pub room_less : (xs : List Outbox) (n more : ℕ) → n ≤ more → HaveRoom xs more → HaveRoom xs n
room_less xs n more few room k d within =
    let r = room k d within in
    record { room = let x = r.room in omega (arith, x, few); numbers = let x = r.numbers in omega (arith, x, few) }

pub room_after : (xs : List Outbox) (place : ℕ) (y d : Outbox) (n more : ℕ) → place < length xs → n + 1 ≤ more → HaveRoom xs more
    → y.made ≡ (get_or xs place d).made + 1 → deque_len y.frames ≤ deque_len (get_or xs place d).frames + 1 → deque_capacity y.frames ≡ deque_capacity (get_or xs place d).frames
    → HaveRoom (set xs place y) n
room_after xs place y d n more within few room made len capacity k e low = elim (cases_eq k place) [
  | inl same ↦
      let at : get_or (set xs place y) k e ≡ y = ap (λ (m : ℕ). get_or (set xs place y) m e) same ∙ get_or-set_same xs place y e within in
      let r = room place d within in
      let a = r.room in
      let b = r.numbers in
      subst (λ (x : Outbox). HasRoom x n) (sym at) (record { room = omega (arith, a, few, len, capacity); numbers = omega (arith, b, few, made) })
  | inr differs ↦
      let at : get_or (set xs place y) k e ≡ get_or xs k e = get_or-set_other xs place k y e differs in
      let long = length-set xs place y in
      subst (λ (x : Outbox). HasRoom x n) (sym at) (room_less xs n more (omega (arith, few)) room k e (omega (arith, low, long)))
]

-- what is made as room has been made
pub on_ok : {P : Type 0} (r : Result (Unit {0}) Memory) → is_err r ≡ false → OnOk r P → P
on_ok (Ok x) is p = p
on_ok (Err e) is p = absurd (never_both is)

-- ---- Frames are dropped

pub dropped_at : (xs : List Outbox) (place : ℕ) (y d : Outbox) (count : ℕ) → place < length xs → outgoing_of y ≡ drops (outgoing_of (get_or xs place d)) count
    → map outgoing_of (set xs place y) ≡ drops_at (map outgoing_of xs) place count
dropped_at [] place y d count within is = absurd (omega (arith, within))
dropped_at (x ∷ xs) zero y d count within is = ap (λ (o : Outgoing). o ∷ map outgoing_of xs) is
dropped_at (x ∷ xs) (suc place) y d count within is = ap (λ (os : List Outgoing). outgoing_of x ∷ os) (dropped_at xs place y d count (omega (arith, within)) is)

pub none_dropped_at : (xs : List Outbox) (place count : ℕ) → length xs ≤ place → map outgoing_of xs ≡ drops_at (map outgoing_of xs) place count
none_dropped_at [] place count past = refl
none_dropped_at (x ∷ xs) zero count past = absurd (omega (arith, past))
none_dropped_at (x ∷ xs) (suc place) count past = ap (λ (os : List Outgoing). outgoing_of x ∷ os) (none_dropped_at xs place count (omega (arith, past)))
