-- What is kept for leaves, after each event.
use Rattle.std.proofs.Common.{◌≡◌, ℕ, ◌+◌, ◌*◌, ◌≤◌, List, [], ◌∷◌, ◌++◌, length, All, Some, refl, ap, ◌∙◌, subst, sym, arith, suc-mul}
use Rattle.std.specs.Prelude.{Result, Ok, Err, IfOk, IsErrOf, IsErrAnd}
use Rattle.std.proofs.lemmas.List.{append-nil, length-append}
use Rattle.std.proofs.lemmas.List.Elements.{All-nil, All-push, All-pop}
use Rattle.ra_stamp.specs.Sequence.{Listed}
use Rattle.ra_frame.specs.declared.frame.Frame.{Frame}
use Rattle.ra_node.specs.declared.outcome.Outcome.{Outcome}
use Rattle.ra_node.specs.Node.{NodeState, clients_count}
use Rattle.ra_book.specs.declared.book.departure.Departure.{Departure}
use Rattle.ra_book.specs.declared.error.BookError.{BookError}
use Rattle.ra_book.specs.declared.error.BookError.TheVariants as book_error
use Rattle.ra_book.specs.Departures.{IsDeparture, HasRoomFor, IsReserved, HasRoomMade, HasEventRoom, UsesRoom, HasGrown}

one_more : (a b : ℕ) → (a + 1) * b ≡ a * b + b
one_more a b = grind (arith, suc-mul)

module _ (nodes : ℕ) (old new : NodeState) (spare spare' len len' capacity capacity' : ℕ) (departures : List Departure)
    (was : IsReserved nodes old spare len capacity departures)
  where
    -- another client has asked, and another departure is made
    pub reserved_asked : (departures' : List Departure) (departure : Departure) → departures' ≡ departures ++ departure ∷ [] → IsDeparture nodes departure
        → clients_count new ≡ clients_count old + 1 → HasRoomFor nodes (length departures + 1) spare' len' capacity'
        → IsReserved nodes new spare' len' capacity' departures'
    reserved_asked departures' departure is one count room =
        let more : length (departures ++ departure ∷ []) ≡ length departures + 1 = omega (arith, length-append departures (departure ∷ [])) in
        subst (λ (ds : List Departure). IsReserved nodes new spare' len' capacity' ds) (sym is)
        (record {
          many = omega (arith, was.many, count, more);
          each = All-push (IsDeparture nodes) departures departure was.each one;
          room = subst (λ (k : ℕ). HasRoomFor nodes k spare' len' capacity') (sym more) room;
        })

    -- a client has left, with one of the departures
    pub reserved_left : (departures' : List Departure) (departure : Departure) (sends : ℕ) → departures ≡ departures' ++ departure ∷ []
        → clients_count new + 1 ≡ clients_count old → sends ≤ 2 * nodes → UsesRoom sends spare spare' len len' capacity capacity'
        → IsReserved nodes new spare' len' capacity' departures'
    reserved_left departures' departure sends is count few used =
        let fewer : length departures' + 1 ≡ length departures = omega (arith, length-append departures' (departure ∷ []), ap (λ (ds : List Departure). length ds) is) in
        let room = subst (λ (k : ℕ). HasRoomFor nodes k spare len capacity) (sym fewer) was.room in
        record {
          many = omega (arith, was.many, count, fewer);
          each = (All-pop (IsDeparture nodes) departures departures' (Some departure) is was.each).0;
          room = record {
            events = omega (arith, room.events, used.spare_is);
            sent = omega (arith, room.sent, one_more (length departures') (2 * nodes), few, used.len_is, used.capacity_is);
          };
        }

    -- the book has as many clients as before, and room for their leaves
    pub reserved_still : clients_count new ≡ clients_count old → HasRoomFor nodes (length departures) spare' len' capacity'
        → IsReserved nodes new spare' len' capacity' departures
    reserved_still count room = record { many = omega (arith, was.many, count); each = was.each; room = room }

    -- an event was refused, and there is no less room than before
    reserved_refused : new ≡ old → HasGrown spare spare' len len' capacity capacity' → IsReserved nodes new spare' len' capacity' departures
    reserved_refused same grown =
        subst (λ (n : NodeState). IsReserved nodes n spare' len' capacity' departures) (sym same)
        (record {
          many = was.many;
          each = was.each;
          room = record { events = omega (arith, was.room.events, grown.events); sent = omega (arith, was.room.sent, grown.len_is, grown.sent) };
        })

    -- only room changed
    pub reserved_grown : (departures' : List Departure) → new ≡ old → departures' ≡ departures → HasGrown spare spare' len len' capacity capacity'
        → IsReserved nodes new spare' len' capacity' departures'
    reserved_grown departures' same is grown = subst (λ (ds : List Departure). IsReserved nodes new spare' len' capacity' ds) (sym is) (reserved_refused same grown)

-- what is taken out of the list is a departure
pub taken_out : (nodes : ℕ) (departures departures' : List Departure) (departure : Departure) → departures ≡ departures' ++ departure ∷ [] → All (IsDeparture nodes) departures → IsDeparture nodes departure
taken_out nodes departures departures' departure is each = (All-pop (IsDeparture nodes) departures departures' (Some departure) is each).1

-- a departure that was taken out, and is unchanged, is put back
pub put_back : (departures left departures' : List Departure) (departure : Departure) (outcome : Outcome) → departures ≡ left ++ departure ∷ []
    → outcome ≡ departure.outcome → departures' ≡ left ++ record departure { outcome = outcome } ∷ [] → departures' ≡ departures
put_back departures left departures' departure outcome was same is =
    is ∙ ap (λ (o : Outcome). left ++ record departure { outcome = o } ∷ []) same ∙ sym was

-- an empty list from which nothing was taken is as before
pub still_empty : (departures departures' : List Departure) → departures ≡ departures' ++ [] → departures' ≡ departures
still_empty departures departures' is = sym (is ∙ append-nil departures')

-- the room is as before
pub no_less : (spare len capacity : ℕ) → HasGrown spare spare len len capacity capacity
no_less spare len capacity = record { events = omega arith; len_is = refl; sent = omega arith }

-- what succeeds is not refused
pub is_no_refusal : {X : Type 0} (v : X) (e : BookError) → IsErrOf (Ok v) e → ⊥
is_no_refusal v e is = cc

same_error : {X : Type 0} (e f : BookError) → IsErrOf {T = X} (Err e) f → e ≡ f
same_error e f h = cc

-- a refusal that is passed on is not for lack of memory
pub passed_memory : {X : Type 0} (e : BookError) → (e ≡ book_error.Memory → ⊥) → (result : Result X BookError) → IsErrAnd result (λ x. x ≡ e) → IsErrOf result book_error.Memory → ⊥
passed_memory e other (Ok x) is err = absurd is
passed_memory {X} e other (Err f) is err = other (sym is ∙ same_error {X = X} f book_error.Memory err)

-- nobody is at a new node
pub reserved_first : (nodes : ℕ) (node : NodeState) (spare len capacity : ℕ) (departures : List Departure) → clients_count node ≡ 0 → departures ≡ [] → len ≡ 0 → IsReserved nodes node spare len capacity departures
reserved_first nodes node spare len capacity departures none is empty =
    subst (λ (ds : List Departure). IsReserved nodes node spare len capacity ds) (sym is)
    (record { many = omega (arith, none); each = All-nil (IsDeparture nodes); room = record { events = omega arith; sent = omega (arith, empty) } })

-- ---- The room of an event

-- what was made for a leave, with the room for it, is room for its event
pub room_to_leave : (nodes sends : ℕ) (departures departures' : List Departure) (departure : Departure) (spare len capacity : ℕ) → departures ≡ departures' ++ departure ∷ []
    → IsDeparture nodes departure → HasRoomFor nodes (length departures) spare len capacity → sends ≤ 2 * nodes → HasEventRoom sends spare len capacity departure.frames
room_to_leave nodes sends departures departures' departure spare len capacity is made room few =
    let fewer : length departures' + 1 ≡ length departures = omega (arith, length-append departures' (departure ∷ []), ap (λ (ds : List Departure). length ds) is) in
    let more = subst (λ (k : ℕ). HasRoomFor nodes k spare len capacity) (sym fewer) room in
    record {
      event = omega (arith, more.events);
      sent = omega (arith, more.sent, one_more (length departures') (2 * nodes), few);
      none = made.no_frames;
      frames = omega (arith, few, made.frames);
    }

module _ (nodes sends leaves spare len capacity : ℕ) (frames : Listed Frame) (made : HasRoomMade nodes sends leaves spare len capacity frames)
    (few : ℕ) (is_few : few ≤ sends)
  where
    -- room that was made is room for the event
    pub room_for_event : HasEventRoom few spare len capacity frames
    room_for_event = record {
      event = omega (arith, made.events);
      sent = omega (arith, made.sent, is_few);
      none = made.none;
      frames = omega (arith, is_few, made.frames);
    }

    -- and then for the leaves after it
    pub room_after : (spare' len' capacity' : ℕ) → UsesRoom few spare spare' len len' capacity capacity' → HasRoomFor nodes leaves spare' len' capacity'
    room_after spare' len' capacity' used = record {
      events = omega (arith, made.events, used.spare_is);
      sent = omega (arith, made.sent, is_few, used.len_is, used.capacity_is);
    }

-- a list of events that was exchanged for an empty one with room for the same leaves, and one of sent frames
pub events_anew : (nodes : ℕ) (node : NodeState) (spare spare' len capacity : ℕ) (departures : List Departure)
    → IsReserved nodes node spare len capacity departures → length departures ≤ spare' → IsReserved nodes node spare' len capacity departures
events_anew nodes node spare spare' len capacity departures was room =
    record { many = was.many; each = was.each; room = record { events = room; sent = was.room.sent } }

pub sent_anew : (nodes : ℕ) (node : NodeState) (spare len len' capacity capacity' : ℕ) (departures : List Departure)
    → IsReserved nodes node spare len capacity departures → len' ≡ 0 → length departures * (2 * nodes) ≤ capacity' → IsReserved nodes node spare len' capacity' departures
sent_anew nodes node spare len len' capacity capacity' departures was none room =
    record { many = was.many; each = was.each; room = record { events = was.room.events; sent = omega (arith, none, room) } }

-- ---- Room that is made

pub as_before : (n : ℕ) → n ≤ n
as_before n = omega arith

-- room for as many frames as were counted
pub room_made : (nodes sends leaves spare len count capacity : ℕ) → leaves + 1 ≤ spare → count ≡ sends + leaves * (2 * nodes) → len + count ≤ capacity
    → {E : Type 0} (r : Result (Listed Frame) E) → IfOk r (λ frames. (frames.items ≡ []) × (sends ≤ frames.spare))
    → IfOk r (λ frames. HasRoomMade nodes sends leaves spare len capacity frames)
room_made nodes sends leaves spare len count capacity events is room (Ok frames) made =
    record { events = events; sent = omega (arith, is, room); none = made.0; frames = made.1 }
room_made nodes sends leaves spare len count capacity events is room (Err e) made = tt
