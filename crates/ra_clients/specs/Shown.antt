-- Which state of the machine the tables show.
use Rattle.std.specs.Prelude.{◌≡◌, ℕ, ◌-◌, Bool, true, false, ◌||◌, if◌then◌else◌, ◌==◌, is_some, List, [], ◌∷◌, ◌++◌, Option, Some, None}
use Rattle.std.specs.BTreeMap.{BTreeMap, get, btree_map_len}
use Rattle.std.specs.BTreeSet.{BTreeSet, contains}
use Rattle.std.specs.Ordering.{nat_cmp}
use Rattle.ra_stamp.specs.declared.mode.Mode.{Mode}
use Rattle.ra_book.specs.declared.book.event.BookKind.{BookKind}
use Rattle.ra_book.specs.declared.book.event.BookKind.TheVariants.{Ask}
use Rattle.ra_host_text.specs.declared.answer.Answer.{Answer}
use Rattle.ra_host_text.specs.declared.answer.Answer.TheVariants.{Unlocked, Refused}
use Rattle.ra_host_text.specs.declared.answer.Refusal.TheVariants.{NotHeld}
use Rattle.ra_clients.specs.declared.uses.NameUse.{NameUse}
use Rattle.ra_clients.specs.declared.limits.Limits as kept
use Rattle.ra_clients.specs.declared.results.Lock.{Lock}
use Rattle.ra_clients.specs.declared.results.Lock.TheVariants as locks
use Rattle.ra_clients.specs.declared.results.Unlock.{Unlock}
use Rattle.ra_clients.specs.declared.results.Unlock.TheVariants as unlocks
use Rattle.ra_clients.specs.declared.results.Told.{Told}
use Rattle.ra_clients.specs.declared.results.Told.TheVariants as told
use Rattle.ra_clients.specs.declared.roster.Roster.{Roster}
use Rattle.ra_clients.specs.declared.clients.ClientTables.{ClientTables}
use Rattle.ra_clients.specs.Uses.{use_of, new_use, without}
use Rattle.ra_clients.specs.Clients.{Limits, Clients, Turn, Turns, Event, IsOverdue, IsLeaving, given_back, with_uses}
use Rattle.ra_clients.specs.RosterUse.{connection_of, uses_of, has, is_kept}

-- Tables with these parts show this state. What it says of a number that nobody has does not matter.
pub record AreShown (now : ℕ) (number_of : BTreeMap ℕ ℕ) (closed : BTreeSet ℕ) (roster : Roster) (released : Bool)
    (s : Clients) : Type 0 where
  pub now_is : s.now ≡ now
  pub numbers : (d : ℕ) → s.number_of d ≡ get nat_cmp number_of d
  pub are_closed : (d : ℕ) → s.is_closed d ≡ contains nat_cmp closed d
  pub connections : (k : ℕ) → s.connection_of k ≡ connection_of roster k
  pub uses : (k : ℕ) → s.uses_of k ≡ uses_of roster k
  pub kept : (k : ℕ) → has roster k ≡ true → s.is_kept k ≡ is_kept roster released k
  pub count_is : s.count ≡ btree_map_len number_of

-- the tables show this state
abbrev pub Shows : ClientTables → Clients → Type 0
Shows c s = AreShown c.time c.number_of c.closed c.roster c.released s

-- the tables show each state that they showed
abbrev pub ShowSame : ClientTables → ClientTables → Type 0
ShowSame old new = (s : Clients) → Shows old s → Shows new s

-- What is shown is the clients after this turn. In it this is told, the node is to do this, and no connection is to be
-- closed.
pub record IsTurn (shown : Clients → Type 0) (t : Turn) (tells : List (ℕ × Answer)) (does : Option BookKind)
    : Type 0 where
  pub clients : shown t.clients
  pub tells_are : t.tells ≡ tells
  pub does_is : t.does ≡ does
  pub closes_not : t.closes ≡ false

abbrev pub ShowsTurn : ClientTables → Turn → List (ℕ × Answer) → Option BookKind → Type 0
ShowsTurn c t tells does = IsTurn (λ s. Shows c s) t tells does

-- For each state that the tables showed, there is a turn of the machine by this event. They show the clients after it,
-- and it tells and does this.
abbrev pub TakesTurn : Limits → ClientTables → Event → List (ℕ × Answer) → Option BookKind → ClientTables → Type 0
TakesTurn l old e tells does new =
    (s : Clients) → Shows old s → (t : Turn) × Turns l s e t × ShowsTurn new t tells does

-- how many clients there may be, and how many names each may have
abbrev pub limits_of : kept.Limits → Limits
limits_of l = record { clients = l.clients; names = l.names }

-- ---- What a call comes to

abbrev pub lock_tells : ℕ → List ℕ → Lock → List (ℕ × Answer)
lock_tells client name locks.PassedOver = []
lock_tells client name (locks.Refused why) = (client, Refused name why) ∷ []
lock_tells client name (locks.Asks number) = []

abbrev pub lock_does : List ℕ → Mode → Lock → Option BookKind
lock_does name mode locks.PassedOver = None
lock_does name mode (locks.Refused why) = None
lock_does name mode (locks.Asks number) = Some (Ask number name mode)

abbrev pub unlock_tells : ℕ → List ℕ → Unlock → List (ℕ × Answer)
unlock_tells client name unlocks.PassedOver = []
unlock_tells client name unlocks.NotHeld = (client, Refused name NotHeld) ∷ []
unlock_tells client name (unlocks.Ends number standing) = (client, Unlocked name) ∷ []

abbrev pub unlock_does : List ℕ → Unlock → Option BookKind
unlock_does name unlocks.PassedOver = None
unlock_does name unlocks.NotHeld = None
unlock_does name (unlocks.Ends number standing) = Some (given_back number name standing)

-- what is told, if the client is told this answer
abbrev pub told_tells : Told → Answer → List (ℕ × Answer)
told_tells told.NotWaiting answer = []
told_tells told.Nobody answer = []
told_tells (told.Client client) answer = (client, answer) ∷ []

abbrev pub since_if_some : Option NameUse → Option ℕ
since_if_some None = None
since_if_some (Some u) = Some u.since

-- ---- What is left to do

-- nobody's time is over
abbrev pub NobodyIsOverdue : ClientTables → Type 0
NobodyIsOverdue c = (s : Clients) (k : ℕ) (name : List ℕ) → Shows c s → IsOverdue s k name → ⊥

-- nobody has a name that is to be given back
abbrev pub NobodyLeaves : ClientTables → Type 0
NobodyLeaves c = (s : Clients) (k : ℕ) (name : List ℕ) (u : NameUse) → Shows c s → IsLeaving s k
    → use_of name (s.uses_of k) ≡ Some u → ⊥

-- ---- Before the start

-- there are no clients, and the time is 0
abbrev pub nobody : Clients
nobody = record {
  now = 0;
  number_of = λ c. None;
  is_closed = λ c. false;
  connection_of = λ k. None;
  uses_of = λ k. [];
  is_kept = λ k. false;
  count = 0;
}

-- A client of before the start waits for the name, by the book. It is kept, unless the host was told to release before.
-- One that has the name already or has a connection stays.
abbrev pub had : Bool → Clients → ℕ → List ℕ → Clients
had is_kept s k name =
    if is_some (s.connection_of k) || is_some (use_of name (s.uses_of k)) then s
    else record (with_uses s k (s.uses_of k ++ new_use name s.now None ∷ [])) {
      is_kept = λ j. if j == k then is_kept else s.is_kept j;
    }

-- the client has the name no more, by the book
abbrev pub left : Clients → ℕ → List ℕ → Clients
left s k name = with_uses s k (without name (s.uses_of k))
