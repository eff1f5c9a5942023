use Rattle.std.proofs.Common.{ℕ, ◌+◌, List, length, refl, ap, ◌∙◌, subst, vec_len, vec_capacity}
use Rattle.ra_book.specs.declared.book.event.BookEvent.{BookEvent}
use Rattle.ra_book.specs.declared.book.departure.Departure.{Departure}
use Rattle.ra_book.specs.declared.book.sent.Sent.{Sent}
use Rattle.ra_book.specs.Departures.{HasRoomMade}
use Rattle.ra_book.proofs.Departing.{as_before}
use Rattle.ra_book.proofs.Running.{not_ok}
use Rattle.ra_book.proofs.book.event_room.room_to_ask.Goals as goal

pub returns-in_err-reserve : goal.returns-in_err-reserve
returns-in_err-reserve c =
    let is = c.from_residual.ensures.1 in
    record {
      events = refl {A = List BookEvent};
      sent = refl {A = List Sent};
      departures = c.reserve.ensures.items;
      grown = record { events = as_before _; len_is = refl {A = ℕ}; sent = as_before _ };
      room = not_ok _ _ c.from_residual.result is;
      departure = not_ok _ _ c.from_residual.result is;
      place = not_ok _ _ c.from_residual.result is;
    }

pub returns-in_err-frames : goal.returns-in_err-frames
returns-in_err-frames c =
    let made = c.make_room.ensures in
    let is = c.from_residual-in_err-frames.ensures.1 in
    record {
      events = made.events;
      sent = made.sent;
      departures = c.reserve.ensures.items;
      grown = made.grown;
      room = not_ok _ _ c.from_residual-in_err-frames.result is;
      departure = not_ok _ _ c.from_residual-in_err-frames.result is;
      place = not_ok _ _ c.from_residual-in_err-frames.result is;
    }

pub returns-in_err-departure : goal.returns-in_err-departure
returns-in_err-departure c =
    let made = c.make_room.ensures in
    let is = c.from_residual-in_err-departure.ensures.1 in
    record {
      events = made.events;
      sent = made.sent;
      departures = c.reserve.ensures.items;
      grown = made.grown;
      room = not_ok _ _ c.from_residual-in_err-departure.result is;
      departure = not_ok _ _ c.from_residual-in_err-departure.result is;
      place = not_ok _ _ c.from_residual-in_err-departure.result is;
    }

pub returns : goal.returns
returns c =
    let made = c.make_room.ensures in
    let departures = c.reserve.new.self in
    let leaves = c.len-leaves.ensures ∙ departures.ok.0 ∙ ap (λ (ds : List Departure). length ds) c.reserve.ensures.items in
    record {
      events = made.events;
      sent = made.sent;
      departures = c.reserve.ensures.items;
      grown = made.grown;
      room = subst (λ (k : ℕ). HasRoomMade c.args.nodes c.args.nodes (k + 1) c.make_room.new.events.spare (vec_len c.make_room.new.sent)
          (vec_capacity c.make_room.new.sent) c.in_ok-frames.frames) leaves
          (subst (λ (n : ℕ). HasRoomMade c.args.nodes n (c.len-leaves.result + 1) c.make_room.new.events.spare (vec_len c.make_room.new.sent)
          (vec_capacity c.make_room.new.sent) c.in_ok-frames.frames) c.from.ensures c.in_ok-frames.ensures.room);
      departure = c.in_ok-departure.ensures;
      place = c.in_ok-reserve.ensures.ok;
    }
