use Rattle.std.proofs.Common.{ℕ, List, refl}
use Rattle.ra_book.specs.declared.book.sent.Sent.{Sent}
use Rattle.std.specs.Prelude.{vec_len, vec_capacity}
use Rattle.ra_book.proofs.Departing.{as_before, room_made}
use Rattle.ra_book.proofs.Running.{not_ok}
use Rattle.ra_book.proofs.book.event_room.make_room.Goals as goal

pub returns-in_err-reserve : goal.returns-in_err-reserve
returns-in_err-reserve c =
    let is = c.from_residual.ensures.1 in
    record {
      events = c.reserve.ensures.same;
      sent = refl {A = List Sent};
      grown = record { events = c.reserve.ensures.grows; len_is = refl {A = ℕ}; sent = as_before _ };
      room = not_ok _ _ c.from_residual.result is;
    }

pub returns-in_err-most_sent : goal.returns-in_err-most_sent
returns-in_err-most_sent c =
    let is = c.from_residual-in_err-most_sent.ensures.1 in
    record {
      events = c.reserve.ensures.same;
      sent = refl {A = List Sent};
      grown = record { events = c.reserve.ensures.grows; len_is = refl {A = ℕ}; sent = as_before _ };
      room = not_ok _ _ c.from_residual-in_err-most_sent.result is;
    }

pub returns-in_err-reserve-2 : goal.returns-in_err-reserve-2
returns-in_err-reserve-2 c =
    let is = c.from_residual-in_err-reserve-2.ensures.1 in
    record {
      events = c.reserve.ensures.same;
      sent = c.reserve-2.ensures.items;
      grown = record { events = c.reserve.ensures.grows; len_is = c.reserve-2.ensures.len; sent = c.reserve-2.ensures.capacity };
      room = not_ok _ _ c.from_residual-in_err-reserve-2.result is;
    }

pub returns : goal.returns
returns c = record {
  events = c.reserve.ensures.same;
  sent = c.reserve-2.ensures.items;
  grown = record { events = c.reserve.ensures.grows; len_is = c.reserve-2.ensures.len; sent = c.reserve-2.ensures.capacity };
  room = room_made c.args.nodes c.args.sends c.args.leaves c.reserve.new.self.spare (vec_len c.reserve-2.new.self) c.in_ok-most_sent.field-0
      (vec_capacity c.reserve-2.new.self) c.in_ok-reserve.ensures.ok c.in_ok-most_sent.ensures c.in_ok-reserve-2.ensures.ok c.with_room.result c.with_room.ensures;
}
