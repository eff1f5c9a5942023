use Rattle.std.proofs.Common.{◌≤◌, ℕ, Ok, length, vec_len, vec_capacity, refl, sym, subst, ◌∙◌}
use Rattle.ra_node.proofs.Counts.{receive_counts}
use Rattle.ra_book.specs.declared.book.event.BookKind.TheVariants.{Receive}
use Rattle.ra_book.specs.Departures.{HasRoomFor}
use Rattle.ra_book.specs.Keeping.{book_of}
use Rattle.ra_book.proofs.Kept.{history_of}
use Rattle.ra_book.specs.declared.book.event_effect.Posted.{Posted}
use Rattle.ra_book.proofs.Running.{comes_as, not_ok, on_err}
use Rattle.ra_book.proofs.Accepting.{receive_passed, frame_taken, node_refuses, without_room, for_book}
use Rattle.ra_book.proofs.Adding as adding
use Rattle.ra_book.proofs.Departing.{reserved_grown, reserved_still, room_for_event, room_after}
use Rattle.ra_book.proofs.KeptLaws.{kept_histories_go_on}
use Rattle.ra_book.proofs.book.Book.receive.Goals as goal

-- ---- It is refused

pub returns-in_err-frame : goal.returns-in_err-frame
returns-in_err-frame c =
    let r = c.from_residual.result in
    let is = c.from_residual.ensures.1 in
    let refused = receive_passed c.args.self.now c.args.bytes.now c.in_err-frame.field-0.0 c.in_err-frame.ensures.refused r is in
    record {
      ok = not_ok _ _ r is;
      history = c.in_err-frame.ensures.checked.history;
      fits = not_ok _ _ r is;
      failed = refused.failed;
      frame = refused.frame;
      wrong_node = refused.wrong_node;
      stranger = refused.stranger;
      clock_full = refused.clock_full;
      allowed = refused.allowed;
      err = on_err _ r refl;
    }

-- ---- There is no room

pub invariant_of-self : goal.invariant_of-self
invariant_of-self c = record {
  keeps = adding.same_kept (book_of c.self.inside) c.self.inside.node c.self.inside.node _ _ c.self.invariant.keeps c.make_room-room.ensures.events
      c.make_room-room.ensures.sent refl;
  reserved = reserved_grown c.self.inside.nodes c.self.inside.node c.self.inside.node _ _ _ _ _ _ c.self.inside.departures.items c.self.invariant.reserved
      c.self.inside.departures.items refl refl c.make_room-room.ensures.grown;
}

pub returns-in_default : goal.returns-in_default
returns-in_default c =
    let now = c.args.self.now in
    let book = book_of c.self.inside in
    let node = c.self.inside.node in
    let next = c.in_ok-frame.ensures.checked.next in
    let refused = without_room node book now c.args.bytes.now next.1.no_fault c.in_ok-frame.frame next.0
    (kept_histories_go_on.node book node c.self.invariant.keeps) c.self.view_is c.in_ok-frame.clock next.1 {T = Posted} c.room_refusal.result c.room_refusal.ensures
    in
    record {
      ok = tt;
      history = history_of _ _ _ (invariant_of-self c).keeps refl;
      fits = tt;
      failed = refused.failed;
      frame = refused.frame;
      wrong_node = refused.wrong_node;
      stranger = refused.stranger;
      clock_full = refused.clock_full;
      allowed = refused.allowed;
      err = adding.same_book now book c.make_room-room.new.events.items c.make_room-room.new.sent.items c.self.view_is c.make_room-room.ensures.events
          c.make_room-room.ensures.sent;
    }

-- ---- The node refuses it

pub invariant_of-self-in_err-outcome : goal.invariant_of-self-in_err-outcome
invariant_of-self-in_err-outcome c = record {
  keeps = adding.same_kept (book_of c.self.inside) c.self.inside.node c.receive.new.self _ _ c.self.invariant.keeps c.make_room-room.ensures.events
      c.make_room-room.ensures.sent c.in_err-outcome.ensures.err;
  reserved = reserved_grown c.self.inside.nodes c.self.inside.node c.receive.new.self _ _ _ _ _ _ c.self.inside.departures.items c.self.invariant.reserved
      c.self.inside.departures.items c.in_err-outcome.ensures.err refl c.make_room-room.ensures.grown;
}

pub returns-in_err-outcome : goal.returns-in_err-outcome
returns-in_err-outcome c =
    let now = c.args.self.now in
    let book = book_of c.self.inside in
    let node = c.self.inside.node in
    let next = c.in_ok-frame.ensures.checked.next in
    let said = c.in_err-outcome.ensures in
    let r = c.from_residual-in_err-outcome.result in
    let is = c.from_residual-in_err-outcome.ensures.1 in
    let refused = node_refuses node book now c.args.bytes.now next.1.no_fault c.in_ok-frame.frame next.0
    (kept_histories_go_on.node book node c.self.invariant.keeps) c.self.view_is c.in_ok-frame.clock next.1 c.in_err-outcome.field-0.0 said.address.wrong_node
    said.address.stranger said.allowed r is
    in
    record {
      ok = not_ok _ _ r is;
      history = history_of _ _ _ (invariant_of-self-in_err-outcome c).keeps refl;
      fits = not_ok _ _ r is;
      failed = refused.failed;
      frame = refused.frame;
      wrong_node = refused.wrong_node;
      stranger = refused.stranger;
      clock_full = refused.clock_full;
      allowed = refused.allowed;
      err = on_err _ r (adding.same_book now book c.make_room-room.new.events.items c.make_room-room.new.sent.items c.self.view_is
          c.make_room-room.ensures.events c.make_room-room.ensures.sent);
    }

-- ---- It comes

pub keep-requires : goal.keep-requires
keep-requires c =
    let outcome = c.in_ok-outcome.outcome in
    room_for_event c.self.inside.nodes c.answers_to-sends.result c.len-leaves.result _ _ _ c.in-Ok.frames c.in-Ok.ensures.room (length outcome.sends.items)
    (subst (λ (n : ℕ). length outcome.sends.items ≤ n) (sym c.answers_to-sends.ensures)
    (kept_histories_go_on.few (book_of c.self.inside) c.self.inside.node c.receive.new.self (Receive c.in_ok-frame.frame) outcome.sends.items outcome.marks.items
    c.self.invariant.keeps c.in_ok-outcome.ensures.ok))

pub invariant_of-self-2 : goal.invariant_of-self-2
invariant_of-self-2 c =
    let book = book_of c.self.inside in
    let frame = c.in_ok-frame.frame in
    let old = c.self.inside.node in
    let new = c.receive.new.self in
    let keeps = c.self.invariant.keeps in
    let nodes = c.self.inside.nodes in
    let departures = c.self.inside.departures in
    let outcome = c.in_ok-outcome.outcome in
    let next = c.in_ok-frame.ensures.checked.next in
    let for_it = for_book book c.args.self.now old frame (kept_histories_go_on.node book old keeps) c.self.view_is (c.in_ok-outcome.ensures.allowed.0 tt) in
    let happened = c.in_ok-outcome.ensures.ok in
    let few = subst (λ (n : ℕ). length outcome.sends.items ≤ n) (sym c.answers_to-sends.ensures)
    (kept_histories_go_on.few book old new (Receive frame) outcome.sends.items outcome.marks.items keeps happened)
    in
    let count = receive_counts old new frame.message outcome.sends.items outcome.marks.items happened in
    let room = room_after nodes c.answers_to-sends.result c.len-leaves.result _ _ _ c.in-Ok.frames c.in-Ok.ensures.room (length outcome.sends.items) few _ _ _ c.keep.ensures.used in
    record {
      keeps = adding.kept_after c.args.self.now book old new c.in_ok-frame.clock (Receive frame) c.keep.new.events.items c.keep.new.sent.items keeps c.self.view_is
          (comes_as c.args.self.now (Receive frame) c.in_ok-frame.clock next.1 (for_it, next.0.fits)) kept_histories_go_on.node kept_histories_go_on.event c.keep.result
          (adding.happens_after c.make_room-room.ensures.events c.make_room-room.ensures.sent (c.keep.ensures.kept old new happened));
      reserved = reserved_still nodes old new _ _ _ _ _ _ departures.items c.self.invariant.reserved count
          (subst (λ (k : ℕ). HasRoomFor nodes k c.keep.new.events.spare (vec_len c.keep.new.sent) (vec_capacity c.keep.new.sent))
          (c.len-leaves.ensures ∙ departures.ok.0) room);
    }

pub returns : goal.returns
returns c =
    let now = c.args.self.now in
    let node = c.self.inside.node in
    let frame = c.in_ok-frame.frame in
    let next = c.in_ok-frame.ensures.checked.next in
    let events = c.keep.new.events.items in
    let sent = c.keep.new.sent.items in
    let posted = c.keep.result in
    let happens = adding.happens_after c.make_room-room.ensures.events c.make_room-room.ensures.sent (c.keep.ensures.kept node c.receive.new.self c.in_ok-outcome.ensures.ok) in
    let book = book_of c.self.inside in
    let same = kept_histories_go_on.node book node c.self.invariant.keeps in
    let allowed = c.in_ok-outcome.ensures.allowed.0 tt in
    let made = frame_taken node book now c.args.bytes.now next.1.no_fault frame next.0 same c.self.view_is c.in_ok-frame.clock next.1 (Ok posted) tt allowed in
    let comes = comes_as now (Receive frame) c.in_ok-frame.clock next.1 (for_book book now node frame same c.self.view_is allowed, next.0.fits) in
    record {
      ok = (
        frame,
        next.0.text,
        adding.added now (book_of c.self.inside) node c.receive.new.self c.in_ok-frame.clock (Receive frame) events sent c.self.invariant.keeps
            c.self.view_is comes kept_histories_go_on.node posted happens,
      );
      history = history_of _ _ _ (invariant_of-self-2 c).keeps refl;
      fits = adding.added_fits now (book_of c.self.inside) node c.receive.new.self c.in_ok-frame.clock (Receive frame) events sent c.self.invariant.keeps c.self.view_is comes
          kept_histories_go_on.node kept_histories_go_on.fit posted happens;
      failed = made.failed;
      frame = made.frame;
      wrong_node = made.wrong_node;
      stranger = made.stranger;
      clock_full = made.clock_full;
      allowed = made.allowed;
      err = tt;
    }
