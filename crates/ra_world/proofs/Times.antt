-- How often a message is among others, by a test that tells it from them.
use Rattle.std.proofs.Common.{◌≡◌, ◌≢◌, ℕ, zero, suc, ◌+◌, ◌≤◌, Bool, true, false, cond, eqb, List, [], ◌∷◌, ◌++◌, map, length, refl, sym, ap, ◌∙◌, subst, arith}
use Rattle.std.specs.Prelude.{All, Contains}
use Rattle.std.specs.List.{filter, flat_map}
use Rattle.std.proofs.lemmas.List.{length-append}
use Rattle.std.proofs.lemmas.List.Elements.{All-head, All-tail, filter-append}
use Rattle.std.proofs.lemmas.List.Concat.{flat_map-append}
use Rattle.ra_stamp.specs.declared.message.Message.{Message}
use Rattle.ra_stamp.specs.Message.{to_of}
use Rattle.ra_bag.specs.Bag.{TakesFirst}
use Rattle.ra_node.specs.Events.{Event, Happening}
use Rattle.ra_node.specs.Events.{Event as acts}
use Rattle.ra_world.specs.declared.step.Step.{Step}
use Rattle.ra_world.specs.declared.step.Step.TheVariants.{Ask, Leave, Cancel, Deliver, Lose, Repeat, Forget}
use Rattle.ra_world.specs.Traffic.{Move, TakesEach, sent_by, put_in, put_by, repeated_in, repeated_by}
use Rattle.ra_world.specs.Run.{events_at, happened_at}
use Rattle.ra_world.specs.Fitting.{sent_in, TellsApart}
use Rattle.ra_world.proofs.Moves.{happens}

abbrev pub times : (Message → Bool) → List Message → ℕ
times is ms = length (filter is ms)

pub times_append : (is : Message → Bool) (xs ys : List Message) → times is (xs ++ ys) ≡ times is xs + times is ys
times_append is xs ys = ap length (filter-append is xs ys) ∙ length-append (filter is xs) (filter is ys)

-- what occurs at least once is in the list
pub some_there : (is : Message → Bool) (m : Message) (xs : List Message) → TellsApart is m → 1 ≤ times is xs → Contains xs m
some_there is m [] tells some = absurd (omega (arith, some))
some_there is m (x ∷ xs) tells some = by_test (is x) refl (λ more. some_there is m xs tells more) some
  where
    by_test : (b : Bool) → is x ≡ b → (1 ≤ times is xs → Contains xs m) → 1 ≤ length (cond b (x ∷ filter is xs) (filter is xs)) → Contains (x ∷ xs) m
    by_test true e behind some = (0, omega arith, (tells x).0 e)
    by_test false e behind some = let at = behind some in (suc at.0, omega (arith, at.1), at.2)

-- and what is in the list occurs at least once
pub there_once : (is : Message → Bool) (m : Message) (xs : List Message) → TellsApart is m → Contains xs m → 1 ≤ times is xs
there_once is m [] tells at = absurd (omega (arith, at.1))
there_once is m (x ∷ xs) tells (zero, low, same) =
    let e : is x ≡ true = (tells x).1 same in
    subst (λ (b : Bool). 1 ≤ length (cond b (x ∷ filter is xs) (filter is xs))) (sym e) (omega arith)
there_once is m (x ∷ xs) tells (suc k, low, same) = by_test (is x) (there_once is m xs tells (k, omega (arith, low), same))
  where
    by_test : (b : Bool) → 1 ≤ times is xs → 1 ≤ length (cond b (x ∷ filter is xs) (filter is xs))
    by_test true some = omega arith
    by_test false some = some

-- a message that is not in the list does not occur
pub never_there : (is : Message → Bool) (m : Message) (xs : List Message) → TellsApart is m → All (λ x. x ≢ m) xs → times is xs ≡ 0
never_there is m [] tells others = refl
never_there is m (x ∷ xs) tells others = by_test (is x) refl (never_there is m xs tells (All-tail (λ y. y ≢ m) x xs others))
  where
    by_test : (b : Bool) → is x ≡ b → times is xs ≡ 0 → length (cond b (x ∷ filter is xs) (filter is xs)) ≡ 0
    by_test true e none = absurd (All-head (λ y. y ≢ m) x xs others ((tells x).0 e))
    by_test false e none = none

-- ---- What is taken

times_first : (is : Message → Bool) (old new : List Message) (m : Message) → TakesFirst old m new → times is old ≡ times is (m ∷ []) + times is new
times_first is old new m takes =
    let whole = ap (times is) takes.old_is ∙ times_append is takes.prefix (m ∷ takes.suffix) in
    let behind = times_append is (m ∷ []) takes.suffix in
    let left = ap (times is) takes.new_is ∙ times_append is takes.prefix takes.suffix in
    omega (arith, whole, behind, left)

pub times_each : (is : Message → Bool) (old taken new : List Message) → TakesEach old taken new → times is old ≡ times is taken + times is new
times_each is old [] new takes = let same = ap (times is) takes in omega (arith, same)
times_each is old (m ∷ taken) new (next, first, rest) =
    let one = times_first is old next m first in
    let more = times_each is next taken new rest in
    let both = times_append is (m ∷ []) taken in
    omega (arith, one, more, both)

-- ---- What is put

pub times_put : (is : Message → Bool) (moves : List Move) → times is (put_by moves) ≡ times is (sent_by moves) + times is (repeated_by moves)
times_put is [] = refl
times_put is (move ∷ moves) =
    let here = times_append is move.sends (repeated_in move.step) in
    let puts = times_append is (put_in move) (put_by moves) in
    let sends = times_append is move.sends (sent_by moves) in
    let copies = times_append is (repeated_in move.step) (repeated_by moves) in
    let rest = times_put is moves in
    omega (arith, here, puts, sends, copies, rest)

-- at most one event happens at a node in a step
few : (b : Bool) (e : Event) → length (cond b (e ∷ []) []) ≤ 1
few true e = omega arith
few false e = omega arith

one_at_most : (i : ℕ) (step : Step) → length (events_at i step) ≤ 1
one_at_most i (Ask node client name mode) = few (eqb node i) (acts.Ask client name mode)
one_at_most i (Leave node client name) = few (eqb node i) (acts.Leave client name)
one_at_most i (Cancel node client name) = few (eqb node i) (acts.Cancel client name)
one_at_most i (Forget node) = few (eqb node i) acts.Forget
one_at_most i (Deliver message) = few (eqb (to_of message) i) (acts.Receive message)
one_at_most i (Lose message) = omega arith
one_at_most i (Repeat message) = omega arith

sent_here : (is : Message → Bool) (move : Move) (events : List Event) → length events ≤ 1
    → times is (sent_in (map (λ event. record { event = event; sends = move.sends; marks = move.marks }) events)) ≤ times is move.sends
sent_here is move [] few = omega arith
sent_here is move (event ∷ []) few =
    let same = times_append is move.sends [] in
    omega (arith, same)
sent_here is move (event ∷ more ∷ events) few = absurd (omega (arith, few))

-- what was sent at a node was sent by the moves, no less often
pub times_sent : (is : Message → Bool) (i : ℕ) (moves : List Move) → times is (sent_in (happened_at i moves)) ≤ times is (sent_by moves)
times_sent is i [] = omega arith
times_sent is i (move ∷ moves) =
    let parts = ap (times is) (flat_map-append (λ (h : Happening). h.sends) (happens i move) (happened_at i moves)) ∙ times_append is (sent_in (happens i move)) (sent_in (happened_at i moves)) in
    let here = sent_here is move (events_at i move.step) (one_at_most i move.step) in
    let later = times_sent is i moves in
    let whole = times_append is move.sends (sent_by moves) in
    omega (arith, parts, here, later, whole)

pub repeated_of : (moves : List Move) → repeated_by moves ≡ flat_map repeated_in (map (λ move. move.step) moves)
repeated_of [] = refl
repeated_of (move ∷ moves) = ap (λ (ms : List Message). repeated_in move.step ++ ms) (repeated_of moves)
