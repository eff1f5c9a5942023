-- How many frames came, by a book with one more event.
use Rattle.std.proofs.Common.{◌≡◌, inl, inr, ℕ, zero, ◌+◌, ◌-◌, ◌<◌, ◌≤◌, Bool, cond, Some, List, [], ◌∷◌, length, set, get_or, replicate, sym, ap, ◌∙◌, arith}
use Rattle.std.specs.Prelude.{slice_get}
use Rattle.std.proofs.lemmas.Bool.{cases_eq, eq-eqb, ne_eqb}
use Rattle.std.proofs.lemmas.List.{get_or-replicate, get_or-set_other, get_or-set_same, length-append, length-replicate, length-set}
use Rattle.std.proofs.lemmas.Option.{get_or_from_slice_get, slice_get-get_or, slice_get_within}
use Rattle.ra_stamp.specs.Message.{from_of}
use Rattle.ra_frame.specs.declared.frame.Frame.{Frame}
use Rattle.ra_book.specs.declared.book.event.BookEvent.{BookEvent}
use Rattle.ra_book.specs.declared.book.event.BookKind.{BookKind}
use Rattle.ra_book.specs.declared.book.event.BookKind.TheVariants.{Receive}
use Rattle.ra_book.specs.Book.{BookState, with_event}
use Rattle.ra_book.specs.Pairs.{come_from}
use Rattle.ra_host.specs.Running.{HasTaken}
use Rattle.ra_host.proofs.Views.{brought, come_more}

-- each count is greater by the frames that the event brings
pub counted : (book : BookState) (clock : ℕ) (kind : BookKind) (frames : List Frame) (old new : List ℕ)
    → ((j n : ℕ) → 1 ≤ j → slice_get old (j - 1) ≡ Some n → slice_get new (j - 1) ≡ Some (n + length (brought j kind)))
    → HasTaken book old → HasTaken (with_event book clock kind frames) new
counted book clock kind frames old new more has j other =
    more j (length (come_from j book)) other.first (has j other)
    ∙ ap (λ (n : ℕ). Some n) (sym (length-append (come_from j book) (brought j kind)) ∙ ap length (come_more j clock book kind frames))

-- the event brings no frame
pub counts_none : (kind : BookKind) (counts : List ℕ) → ((j : ℕ) → brought j kind ≡ []) → (j n : ℕ) → 1 ≤ j → slice_get counts (j - 1) ≡ Some n → slice_get counts (j - 1) ≡ Some (n + length (brought j kind))
counts_none kind counts none j n some is = is ∙ ap (λ (m : ℕ). Some m) (let e = ap length (none j) in omega (arith, e))

-- the event brings a frame of a host that is not counted
pub counts_stranger : (frame : Frame) (counts : List ℕ) (place : ℕ) → place ≡ from_of frame.message - 1 → length counts ≤ place
    → (j n : ℕ) → 1 ≤ j → slice_get counts (j - 1) ≡ Some n → slice_get counts (j - 1) ≡ Some (n + length (brought j (Receive frame)))
counts_stranger frame counts place at past j n some is =
    let within = slice_get_within counts (j - 1) n is in
    let none : brought j (Receive frame) ≡ [] = ap (λ (b : Bool). cond b (frame ∷ []) []) (ne_eqb (from_of frame.message) j (λ same. omega (arith, same, at, past, within))) in
    is ∙ ap (λ (m : ℕ). Some m) (let e = ap length none in omega (arith, e))

-- the event brings a frame of a host that is counted
pub counts_frame : (frame : Frame) (counts : List ℕ) (place x : ℕ) → place ≡ from_of frame.message - 1 → 1 ≤ from_of frame.message → place < length counts → x ≡ get_or counts place x
    → (j n : ℕ) → 1 ≤ j → slice_get counts (j - 1) ≡ Some n → slice_get (set counts place (x + 1)) (j - 1) ≡ Some (n + length (brought j (Receive frame)))
counts_frame frame counts place x at first within read j n some is =
    let here = slice_get_within counts (j - 1) n is in
    let long = length-set counts place (x + 1) in
    elim (cases_eq (from_of frame.message) j) [
      | inl same ↦
          let one : brought j (Receive frame) ≡ frame ∷ [] = ap (λ (b : Bool). cond b (frame ∷ []) []) (eq-eqb (from_of frame.message) j same) in
          let place_is : j - 1 ≡ place = omega (arith, same, at) in
          let was : x ≡ n = read ∙ ap (λ (i : ℕ). get_or counts i x) (sym place_is) ∙ get_or_from_slice_get counts (j - 1) n x is in
          slice_get-get_or (set counts place (x + 1)) (j - 1) n (omega (arith, here, long))
          ∙ ap (λ (m : ℕ). Some m) (ap (λ (i : ℕ). get_or (set counts place (x + 1)) i n) place_is ∙ get_or-set_same counts place (x + 1) n within
          ∙ (let e = ap length one in omega (arith, e, was)))
      | inr differs ↦
          let none : brought j (Receive frame) ≡ [] = ap (λ (b : Bool). cond b (frame ∷ []) []) (ne_eqb (from_of frame.message) j differs) in
          slice_get-get_or (set counts place (x + 1)) (j - 1) n (omega (arith, here, long))
          ∙ ap (λ (m : ℕ). Some m) (get_or-set_other counts place (j - 1) (x + 1) n (λ same. differs (omega (arith, same, at, first, some)))
          ∙ get_or_from_slice_get counts (j - 1) n n is
          ∙ (let e = ap length none in omega (arith, e)))
    ]

-- a book without events
pub none_counted : (book : BookState) (counts : List ℕ) (n : ℕ) → counts ≡ replicate n 0 → book.nodes ≡ n → book.events ≡ [] → HasTaken book counts
none_counted book counts n are nodes events j other =
    let long : length (replicate n zero) ≡ n = length-replicate n zero in
    let within : j - 1 < n = omega (arith, nodes, other.first, other.last) in
    let none : length (come_from j book) ≡ 0 = ap (λ (es : List BookEvent). length (come_from j (record book { events = es }))) events in
    ap (λ (xs : List ℕ). slice_get xs (j - 1)) are
    ∙ slice_get-get_or (replicate n 0) (j - 1) 0 (omega (arith, long, within))
    ∙ ap (λ (m : ℕ). Some m) (get_or-replicate n (j - 1) 0 0 within ∙ sym none)
