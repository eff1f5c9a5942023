-- The clients of a host. There is one definition for each thing that a client says, and for each thing that happens.
use Rattle.std.specs.Prelude.{◌≡◌, ℕ, ◌+◌, ◌-◌, ◌^◌, ◌<◌, ◌≤◌, ◌==◌, max, min, nat_le, Bool, true, false, ◌&&◌, ◌||◌, not, if◌then◌else◌, List, [], ◌∷◌, ◌++◌, Option, Some, None}
use Rattle.ra_stamp.specs.declared.mode.Mode.{Mode}
use Rattle.ra_book.specs.declared.book.event.BookKind.{BookKind}
use Rattle.ra_book.specs.declared.book.event.BookKind.TheVariants.{Ask, Leave, Cancel}
use Rattle.ra_host_text.specs.declared.answer.Answer.{Answer}
use Rattle.ra_host_text.specs.declared.answer.Answer.TheVariants.{Granted, Timeout, Unlocked, Refused}
use Rattle.ra_host_text.specs.declared.answer.Refusal.{Refusal}
use Rattle.ra_host_text.specs.declared.answer.Refusal.TheVariants.{Limit, NotHeld}
use Rattle.ra_clients.specs.declared.uses.NameUse.{NameUse}
use Rattle.ra_clients.specs.declared.uses.Standing.{Standing}
use Rattle.ra_clients.specs.declared.uses.Standing.TheVariants.{Waits, Holds}
use Rattle.ra_clients.specs.Uses.{use_of, waits_for, new_use, let_in, without, lock_refusal}

-- how many clients with a number there may be at once, and how many names each of them may hold or wait for
pub record Limits : Type 0 where
  pub clients : ℕ
  pub names : ℕ

-- The time; by connection, the number by which the book knows its client, if it has one, and whether the connection was
-- closed; by number, the client's connection, if it has one, and the names that it holds or waits for. A client that is
-- gone has no connection, nor has one of before the start. The names of the latter are kept until the host is told to
-- release them. `count` is how many connections have a number.
pub record Clients : Type 0 where
  pub now : ℕ
  pub number_of : ℕ → Option ℕ
  pub is_closed : ℕ → Bool
  pub connection_of : ℕ → Option ℕ
  pub uses_of : ℕ → List NameUse
  pub is_kept : ℕ → Bool
  pub count : ℕ

-- the clients after something happened, what is told to connections, what the node is to do, and whether the connection
-- is to be closed
pub record Turn : Type 0 where
  pub clients : Clients
  pub tells : List (ℕ × Answer)
  pub does : Option BookKind
  pub closes : Bool

abbrev pub silent : Clients → Turn
silent s = record { clients = s; tells = []; does = None; closes = false }

abbrev pub tells : Clients → ℕ → Answer → Turn
tells s c answer = record { clients = s; tells = (c, answer) ∷ []; does = None; closes = false }

abbrev pub with_uses : Clients → ℕ → List NameUse → Clients
with_uses s k us = record s { uses_of = λ j. if j == k then us else s.uses_of j }

-- ---- A client asks for a name.

-- nobody has this number: no connection, and nobody who holds or waits by the book
pub record IsUnused (s : Clients) (k : ℕ) : Type 0 where
  pub no_connection : s.connection_of k ≡ None
  pub no_uses : s.uses_of k ≡ []

-- the least number that nobody has
pub record IsFirstUnused (s : Clients) (k : ℕ) : Type 0 where
  pub unused : IsUnused s k
  pub least : (j : ℕ) → j < k → IsUnused s j → ⊥

-- the client of this connection gets the number
abbrev pub numbered : Clients → ℕ → ℕ → Clients
numbered s c k =
    record s {
      number_of = λ d. if d == c then Some k else s.number_of d;
      connection_of = λ j. if j == k then Some c else s.connection_of j;
      is_kept = λ j. if j == k then false else s.is_kept j;
      count = s.count + 1;
    }

-- it is refused, or begins to wait, and its node is to ask
abbrev pub asks_unless : Option Refusal → Clients → ℕ → ℕ → List ℕ → Mode → Option ℕ → Turn
asks_unless (Some why) s c k name mode until = tells s c (Refused name why)
asks_unless None s c k name mode until =
    record {
      clients = with_uses s k (s.uses_of k ++ new_use name s.now until ∷ []);
      tells = [];
      does = Some (Ask k name mode);
      closes = false;
    }

abbrev pub asks : Limits → Clients → ℕ → ℕ → List ℕ → Mode → Option ℕ → Turn
asks l s c k name mode until = asks_unless (lock_refusal name l.names (s.uses_of k)) s c k name mode until

-- whether no further client may ask, if it would get this number: there are 2^32 of them
abbrev pub is_full : Limits → Clients → ℕ → Bool
is_full l s unused = nat_le l.clients s.count || (nat_le l.names 0 || nat_le (2 ^ 32) unused)

-- a client that has no number yet gets this one, unless there are as many clients as there may be
abbrev pub locks_as : Option ℕ → Limits → ℕ → Clients → ℕ → List ℕ → Mode → Option ℕ → Turn
locks_as (Some k) l unused s c name mode until = asks l s c k name mode until
locks_as None l unused s c name mode until =
    if is_full l s unused then tells s c (Refused name Limit)
    else asks l (numbered s c unused) c unused name mode until

-- when it gives up, if it does: at the last time of all, if that comes first
abbrev pub until_at : ℕ → Option ℕ → Option ℕ
until_at now None = None
until_at now (Some within) = Some (min (now + within) (2 ^ 64 - 1))

abbrev pub locks : Limits → ℕ → Clients → ℕ → List ℕ → Mode → Option ℕ → Turn
locks l unused s c name mode within =
    if s.is_closed c then silent s
    else locks_as (s.number_of c) l unused s c name mode (until_at s.now within)

-- the answer goes to this connection, if there is one
abbrev pub told : Option ℕ → Answer → List (ℕ × Answer)
told None answer = []
told (Some c) answer = (c, answer) ∷ []

-- its node refuses a name; if the client waits for it, it waits no longer
abbrev pub takes_back : Clients → ℕ → List ℕ → Refusal → Turn
takes_back s k name why =
    if waits_for name (s.uses_of k)
    then record {
      clients = with_uses s k (without name (s.uses_of k));
      tells = told (s.connection_of k) (Refused name why);
      does = None;
      closes = false;
    }
    else silent s

-- ---- It is let in.

abbrev pub enters : Clients → ℕ → List ℕ → ℕ → ℕ → Turn
enters s k name seq node =
    if waits_for name (s.uses_of k)
    then record {
      clients = with_uses s k (let_in name s.now (s.uses_of k));
      tells = told (s.connection_of k) (Granted name seq node);
      does = None;
      closes = false;
    }
    else silent s

-- ---- It gives a name back, or gives up.

-- what its node is to do then
abbrev pub given_back : ℕ → List ℕ → Standing → BookKind
given_back k name (Waits until) = Cancel k name
given_back k name Holds = Leave k name

abbrev pub ends : Clients → ℕ → List ℕ → Standing → List (ℕ × Answer) → Turn
ends s k name standing told =
    record {
      clients = with_uses s k (without name (s.uses_of k));
      tells = told;
      does = Some (given_back k name standing);
      closes = false;
    }

abbrev pub unlocks_use : Option NameUse → Clients → ℕ → ℕ → List ℕ → Turn
unlocks_use None s c k name = tells s c (Refused name NotHeld)
unlocks_use (Some u) s c k name = ends s k name u.standing ((c, Unlocked name) ∷ [])

abbrev pub unlocks_as : Option ℕ → Clients → ℕ → List ℕ → Turn
unlocks_as None s c name = tells s c (Refused name NotHeld)
unlocks_as (Some k) s c name = unlocks_use (use_of name (s.uses_of k)) s c k name

abbrev pub unlocks : Clients → ℕ → List ℕ → Turn
unlocks s c name = if s.is_closed c then silent s else unlocks_as (s.number_of c) s c name

-- ---- A line is none of a client, or a client is gone.

-- what it still says is passed over; its names are given back once it is gone
abbrev pub closes : Clients → ℕ → Turn
closes s c =
    record {
      clients = record s { is_closed = λ d. d == c || s.is_closed d };
      tells = [];
      does = None;
      closes = not (s.is_closed c);
    }

abbrev pub unconnected : Option ℕ → Clients → ℕ → Clients
unconnected None s c = s
unconnected (Some k) s c =
    record s {
      number_of = λ d. if d == c then None else s.number_of d;
      connection_of = λ j. if j == k then None else s.connection_of j;
      count = s.count - 1;
    }

abbrev pub goes : Clients → ℕ → Turn
goes s c =
    silent
    (record (unconnected (s.number_of c) s c) { is_closed = λ d. not (d == c) && s.is_closed d })

-- ---- Time, and what is to be released

abbrev pub passes_time : Clients → ℕ → Turn
passes_time s now = silent (record s { now = max s.now now })

-- the clients of before the start have stopped
abbrev pub releases : Clients → Turn
releases s = silent (record s { is_kept = λ k. false })

-- the client waits for the name, and its time is over
pub record IsOverdue (s : Clients) (k : ℕ) (name : List ℕ) : Type 0 where
  pub waiting : NameUse
  pub is : use_of name (s.uses_of k) ≡ Some waiting
  pub until : ℕ
  pub waits : waiting.standing ≡ Waits (Some until)
  pub past : until ≤ s.now

abbrev pub times_out : Clients → ℕ → List ℕ → Standing → Turn
times_out s k name standing = ends s k name standing (told (s.connection_of k) (Timeout name))

-- the names of this client are to be given back: it is gone, or of before the start and released
pub record IsLeaving (s : Clients) (k : ℕ) : Type 0 where
  pub no_connection : s.connection_of k ≡ None
  pub not_kept : s.is_kept k ≡ false

-- it may give its names back in any order
abbrev pub gives_back : Clients → ℕ → List ℕ → Standing → Turn
gives_back s k name standing = ends s k name standing []

-- ---- All that may happen

-- Clients say the first three. The node refuses what a client asked, or lets a client in. A connection ends, the time
-- passes, the host is told to release. The last two can happen to a client whose time is over, and to one that leaves;
-- nothing here says that they do.
pub data Event : Type 0 where
  Lock : (c : ℕ) → (name : List ℕ) → (mode : Mode) → (within : Option ℕ) → Event
  Unlock : (c : ℕ) → (name : List ℕ) → Event
  Bad : (c : ℕ) → Event
  Refuse : (k : ℕ) → (name : List ℕ) → (why : Refusal) → Event
  Enter : (k : ℕ) → (name : List ℕ) → (seq : ℕ) → (node : ℕ) → Event
  Gone : (c : ℕ) → Event
  Time : (now : ℕ) → Event
  Release : Event
  Give_up : (k : ℕ) → (name : List ℕ) → Event
  Give_back : (k : ℕ) → (name : List ℕ) → Event

abbrev pub Turns : Limits → Clients → Event → Turn → Type 0
Turns l s (Lock c name mode within) t =
    (unused : ℕ) × IsFirstUnused s unused × (t ≡ locks l unused s c name mode within)
Turns l s (Unlock c name) t = t ≡ unlocks s c name
Turns l s (Bad c) t = t ≡ closes s c
Turns l s (Refuse k name why) t = t ≡ takes_back s k name why
Turns l s (Enter k name seq node) t = t ≡ enters s k name seq node
Turns l s (Gone c) t = t ≡ goes s c
Turns l s (Time now) t = t ≡ passes_time s now
Turns l s Release t = t ≡ releases s
Turns l s (Give_up k name) t =
    (overdue : IsOverdue s k name) × (t ≡ times_out s k name overdue.waiting.standing)
Turns l s (Give_back k name) t =
    IsLeaving s k × ((u : NameUse) × (use_of name (s.uses_of k) ≡ Some u) × (t ≡ gives_back s k name u.standing))
