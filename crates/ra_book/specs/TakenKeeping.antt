-- How a book knows what was taken from it. No public contract speaks of it.
use Rattle.std.specs.Prelude.{◌≡◌, false, []}
use Rattle.std.specs.List.{flat_map}
use Rattle.ra_book.specs.declared.book.taken.Taken.TheInside.{Inside}
use Rattle.ra_book.specs.History.{clock_of}
use Rattle.ra_book.specs.Book.{TakenState}

-- what the fields represent: all lists that were taken, one after the other
abbrev pub taken_of : Inside → TakenState
taken_of t = record {
  some = t.some;
  events = flat_map (λ events. events.items) t.events.items;
  sent = flat_map (λ sent. sent.items) t.sent.items;
}

-- the last event that was taken has this clock; if nothing was taken there is none
pub record IsKeptTaken (t : Inside) : Type 0 where
  pub clock : t.clock ≡ clock_of (taken_of t).events
  pub events : t.some ≡ false → (taken_of t).events ≡ []
  pub sent : t.some ≡ false → (taken_of t).sent ≡ []
