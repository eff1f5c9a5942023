-- Two hosts whose books may be put back: while a host is down, its book may be cut to some of the first lines that it
-- has then. A copy does not count if it has lines that a crash or another put-back took since.
use Rattle.std.specs.Prelude.{ℕ, Bool, true, false, List, [], ◌∷◌, take, min, if◌then◌else◌}
use Rattle.ra_link.specs.Pair.{Host, Event, Who, Pair, happens, new_pair}
use Rattle.ra_link.specs.Pair.Who.{One, Two}

-- an event, or a book is put back: its first `sent` frames that were sent are left in it, and its first `taken` that
-- came
pub data Move : Type 0 where
  Goes : (event : Event) → Move
  Put_back : (sent taken : ℕ) → Move

abbrev pub puts_back : Host → ℕ → ℕ → Host
puts_back h sent taken =
    if h.up
    then h
    else record h {
      sent = take sent h.sent;
      taken = take taken h.taken;
      sent_kept = min sent h.sent_kept;
      taken_kept = min taken h.taken_kept;
    }

abbrev pub moves : Pair → Who → Move → Pair
moves p who (Goes e) = happens p who e
moves p One (Put_back sent taken) = record p { one = puts_back p.one sent taken }
moves p Two (Put_back sent taken) = record p { two = puts_back p.two sent taken }

abbrev pub run_moves : Pair → List (Who × Move) → Pair
run_moves p [] = p
run_moves p (m ∷ rest) = run_moves (moves p m.0 m.1) rest

-- the two hosts after these events, with books put back
abbrev pub after_moves : List (Who × Move) → Pair
after_moves all = run_moves new_pair all

-- the book of this host is put back
abbrev pub is_put_back : Who → Who → Move → Bool
is_put_back who at (Goes e) = false
is_put_back One One (Put_back sent taken) = true
is_put_back One Two (Put_back sent taken) = false
is_put_back Two One (Put_back sent taken) = false
is_put_back Two Two (Put_back sent taken) = true
