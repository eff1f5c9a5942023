-- Two rounds of one schedule: each message arrives at once after it was said, and nothing else happens. After them,
-- nothing is under way between two hosts that are up.
use Rattle.std.specs.Prelude.{◌≡◌, ◌≤◌, ◌⊎◌, true, false, ◌+◌, ◌*◌, ◌++◌, ◌∷◌, [], ℕ, List, suc, zero, length}
use Rattle.ra_link.specs.Link.{said_again}
use Rattle.ra_link.specs.Pair.{Host, Event, Who, Pair, run, this, other}
use Rattle.ra_link.specs.Pair.Event.{Connects, Comes, Replays, Syncs, Says_hello, Says_ack, Says_old, Says_frame}
use Rattle.ra_link.specs.Pair.Who.{One, Two}

abbrev pub opposite : Who → Who
opposite One = Two
opposite Two = One

-- The host asks, and is answered. What was said last comes, which is the first of all that was said.
abbrev pub asks_and_hears : Who → List (Who × Event)
asks_and_hears who = (who, Connects) ∷ (who, Says_hello) ∷ (opposite who, Comes 0) ∷ (who, Comes 0) ∷ []

-- the host syncs, and acknowledges what it has
abbrev pub syncs_and_acknowledges : Who → List (Who × Event)
syncs_and_acknowledges who = (who, Syncs) ∷ (who, Says_ack) ∷ (opposite who, Comes 0) ∷ []

-- the first round: both ask, acknowledge, and become ready if they are not
abbrev pub first_round : List (Who × Event)
first_round =
    asks_and_hears One ++ asks_and_hears Two ++ syncs_and_acknowledges One ++ syncs_and_acknowledges Two
    ++ (One, Replays) ∷ (Two, Replays) ∷ []

-- the host says this many frames, in order, from the one after these on
abbrev pub says_frames : Who → ℕ → ℕ → List (Who × Event)
says_frames who past zero = []
says_frames who past (suc n) = says_frames who past n ++ (who, Says_frame (past + n + 1)) ∷ (opposite who, Comes 0) ∷ []

-- a second of the second round: both say again what is not acknowledged, at most 1,000 frames, and acknowledge
abbrev pub says_again : Pair → List (Who × Event)
says_again p =
    says_frames One p.one.link.acknowledged (said_again p.one.link)
    ++ says_frames Two p.two.link.acknowledged (said_again p.two.link)
    ++ syncs_and_acknowledges One ++ syncs_and_acknowledges Two

-- after this many seconds of the second round
abbrev pub after_seconds : ℕ → Pair → Pair
after_seconds zero p = p
after_seconds (suc n) p = after_seconds n (run p (says_again p))

abbrev pub after_two_rounds : ℕ → Pair → Pair
after_two_rounds seconds p = after_seconds seconds (run p first_round)

-- each host lacks at most 1,000 frames for each second
pub record LackFew (seconds : ℕ) (p : Pair) : Type 0 where
  pub one : length p.two.sent ≤ length p.one.taken + 1000 * seconds
  pub two : length p.one.sent ≤ length p.two.taken + 1000 * seconds

-- the host is up and ready, and the other has taken and acknowledged all that was made for it
pub record IsSettled (who : Who) (p : Pair) : Type 0 where
  pub up : (this who p).up ≡ true
  pub ready : (this who p).link.ready ≡ true
  pub acknowledged : (this who p).link.acknowledged ≡ (this who p).link.made
  pub taken : (other who p).taken ≡ (this who p).sent

-- ---- If books may be put back

-- The host asks, and is answered by one that has synced. If that one's book is old, it says so.
abbrev pub asks_and_tells : Who → List (Who × Event)
asks_and_tells who =
    (opposite who, Syncs) ∷ (who, Connects) ∷ (who, Says_hello) ∷ (opposite who, Comes 0) ∷ (who, Comes 0)
    ∷ (who, Says_old) ∷ (opposite who, Comes 0) ∷ []

abbrev pub finding_round : List (Who × Event)
finding_round =
    asks_and_tells One ++ asks_and_tells Two ++ syncs_and_acknowledges One ++ syncs_and_acknowledges Two
    ++ (One, Replays) ∷ (Two, Replays) ∷ []

abbrev pub after_finding_rounds : ℕ → Pair → Pair
after_finding_rounds seconds p = after_seconds seconds (run p finding_round)

-- the host has ended by itself, since a count showed that its book is old
pub record HasEnded (h : Host) : Type 0 where
  pub down : h.up ≡ false
  pub accused : h.accused ≡ true

abbrev pub OneHasEnded : Pair → Type 0
OneHasEnded p = HasEnded p.one ⊎ HasEnded p.two
