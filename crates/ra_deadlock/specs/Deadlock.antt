-- What a deadlock is. A client that waits by one request gives nothing back meanwhile. So a granted request ends only
-- after each request by which its client waits, and a request that waits ends only after those that are in its way. In a
-- circle none ends, unless one of these clients gives up, or gives back a name although it waits.
use Rattle.std.specs.Prelude.{◌≡◌, ◌⊎◌, ℕ, ◌-◌, ◌<◌, Bool, true, false, List, [], ◌∷◌, length, slice_index_or, All, Contains}
use Rattle.std.specs.List.{AllAdjacentBelow}
use Rattle.ra_stamp.specs.declared.entry.Entry.{Entry}
use Rattle.ra_stamp.specs.Stamp.{IsEarlier}
use Rattle.ra_table.specs.Refusals.{SharesNodeAndName}
use Rattle.ra_table.specs.Table.{Excludes}
use Rattle.ra_deadlock.specs.declared.request.Stage.{Stage}
use Rattle.ra_deadlock.specs.declared.request.Stage.TheVariants.{Waits, Queued, Holds}
use Rattle.ra_deadlock.specs.declared.request.Request.{Request}

-- whether a request at this stage was granted
abbrev pub is_granted : Stage → Bool
is_granted Waits = false
is_granted Queued = false
is_granted Holds = true

-- The request of an entry at this stage keeps out one that waits: it excludes that one, and is granted, or waits and is
-- earlier.
abbrev pub KeepsOut : Stage → (ahead waiting : Entry) → Type 0
KeepsOut Waits ahead waiting = Excludes ahead waiting × IsEarlier ahead.stamp waiting.stamp
KeepsOut Queued ahead waiting = ⊥
KeepsOut Holds ahead waiting = Excludes ahead waiting

-- the client of an entry is queued after the request of an entry at this stage: that is its node's request for the name
abbrev pub IsAheadOf : Stage → (ahead queued : Entry) → Type 0
IsAheadOf Waits ahead queued = SharesNodeAndName ahead queued
IsAheadOf Queued ahead queued = ⊥
IsAheadOf Holds ahead queued = SharesNodeAndName ahead queued

-- by the stage of the second request: the first one is in its way
abbrev pub IsInTheWayAt : Stage → (ahead : Request) → Entry → Type 0
IsInTheWayAt Waits ahead entry = KeepsOut ahead.stage ahead.entry entry
IsInTheWayAt Queued ahead entry = IsAheadOf ahead.stage ahead.entry entry
IsInTheWayAt Holds ahead entry = ⊥

-- the first request is in the way of the second one
abbrev pub IsInTheWay : (ahead own : Request) → Type 0
IsInTheWay ahead own = IsInTheWayAt own.stage ahead own.entry

-- both requests are of one client, which is known by its node and its number there
abbrev pub AreOfOneClient : Request → Request → Type 0
AreOfOneClient one other =
    (one.entry.stamp.node ≡ other.entry.stamp.node) × (one.entry.client ≡ other.entry.client)

-- the first request ends only after the second one: that is in its way, or the first one is granted, and its client waits
-- or is queued by the second one
abbrev pub EndsAfter : (own next : Request) → Type 0
EndsAfter own next = IsInTheWay next own
    ⊎ ((is_granted own.stage ≡ true) × (is_granted next.stage ≡ false) × AreOfOneClient own next)

-- These of the requests are in a circle: each ends only after the next one, and the last one only after the first.
pub record IsCircle (requests circle : List Request) : Type 0 where
  pub some : 0 < length circle
  pub among : All (λ request. Contains requests request) circle
  pub each : AllAdjacentBelow EndsAfter circle (length circle)
  pub last : (d : Request) → EndsAfter (slice_index_or circle (length circle - 1) d) (slice_index_or circle 0 d)

-- some of the requests are in a circle
abbrev pub IsDeadlock : List Request → Type 0
IsDeadlock requests = (circle : List Request) × IsCircle requests circle

-- these are requests in a circle, or there are none, and then there is no deadlock
abbrev pub IsAnswer : (requests found : List Request) → Type 0
IsAnswer requests [] = ¬ IsDeadlock requests
IsAnswer requests (first ∷ rest) = IsCircle requests (first ∷ rest)
