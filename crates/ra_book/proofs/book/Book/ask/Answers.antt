use Rattle.std.proofs.Common.{◌+◌, List, ◌∷◌, [], ◌++◌, length, refl, ap, ◌∙◌, subst}
use Rattle.ra_node.proofs.Counts.{ask_counts}
use Rattle.ra_book.specs.declared.book.departure.Departure.{Departure}
use Rattle.ra_book.specs.declared.book.event.BookKind.TheVariants.{Ask}
use Rattle.ra_book.specs.Book.{BookState}
use Rattle.ra_book.specs.Keeping.{RefusesAsk, book_of}
use Rattle.ra_book.proofs.Kept.{history_of}
use Rattle.ra_book.proofs.Running.{runs_is, comes_as, ask_answered, ask_allowed, not_ok, on_err}
use Rattle.ra_book.proofs.Adding as adding
use Rattle.ra_book.proofs.Departing.{reserved_asked, reserved_grown, room_for_event, room_after}
use Rattle.ra_book.proofs.KeptLaws.{kept_histories_go_on}
use Rattle.ra_book.proofs.book.Book.ask.Goals as goal

-- ---- No clock is left, or the book has a fault

pub returns-in_default : goal.returns-in_default
returns-in_default c =
    let refused = c.ask_refusal.ensures.refused in
    record {
      ok = tt;
      history = c.ask_refusal.ensures.history;
      fits = tt;
      failed = refused.failed;
      busy = refused.busy;
      exhausted = refused.exhausted;
      clock_full = refused.clock_full;
      allowed = refused.allowed;
      err = refl;
    }

-- ---- There is no room

pub invariant_of-self : goal.invariant_of-self
invariant_of-self c = record {
  keeps = adding.same_kept (book_of c.self.inside) c.self.inside.node c.self.inside.node _ _ c.self.invariant.keeps c.room_to_ask-room.ensures.events
      c.room_to_ask-room.ensures.sent refl;
  reserved = reserved_grown c.self.inside.nodes c.self.inside.node c.self.inside.node _ _ _ _ _ _ c.self.inside.departures.items c.self.invariant.reserved
      c.room_to_ask-room.new.departures.items refl c.room_to_ask-room.ensures.departures c.room_to_ask-room.ensures.grown;
}

pub returns-in_default-room : goal.returns-in_default-room
returns-in_default-room c =
    let same = adding.same_book c.args.self.now (book_of c.self.inside) c.room_to_ask-room.new.events.items c.room_to_ask-room.new.sent.items c.self.view_is
    c.room_to_ask-room.ensures.events c.room_to_ask-room.ensures.sent
    in
    let refused = subst (λ (b : BookState). RefusesAsk b c.args.client c.args.name c.args.mode c.ask_refusal-in_default-room.result) same c.ask_refusal-in_default-room.ensures.refused in
    record {
      ok = tt;
      history = c.ask_refusal-in_default-room.ensures.history;
      fits = tt;
      failed = refused.failed;
      busy = refused.busy;
      exhausted = refused.exhausted;
      clock_full = refused.clock_full;
      allowed = refused.allowed;
      err = same;
    }

-- ---- The node refuses it

pub invariant_of-self-in_err-outcome : goal.invariant_of-self-in_err-outcome
invariant_of-self-in_err-outcome c = record {
  keeps = adding.same_kept (book_of c.self.inside) c.self.inside.node c.ask.new.self _ _ c.self.invariant.keeps c.room_to_ask-room.ensures.events
      c.room_to_ask-room.ensures.sent c.in_err-outcome.ensures.err;
  reserved = reserved_grown c.self.inside.nodes c.self.inside.node c.ask.new.self _ _ _ _ _ _ c.self.inside.departures.items c.self.invariant.reserved
      c.room_to_ask-room.new.departures.items c.in_err-outcome.ensures.err c.room_to_ask-room.ensures.departures c.room_to_ask-room.ensures.grown;
}

pub returns-in_err-outcome : goal.returns-in_err-outcome
returns-in_err-outcome c =
    let now = c.args.self.now in
    let node = c.self.inside.node in
    let next = c.in-Some.ensures in
    let r = c.from_residual.result in
    let is = c.from_residual.ensures.1 in
    let refused = ask_answered now c.args.client c.args.name c.args.mode node next.no_fault
    (runs_is kept_histories_go_on.determined now (book_of c.self.inside) node c.self.invariant.keeps c.self.view_is)
    c.in_err-outcome.field-0.0 c.in_err-outcome.ensures.busy c.in_err-outcome.ensures.exhausted c.in_err-outcome.ensures.allowed next.has_clock r is
    in
    record {
      ok = not_ok _ _ r is;
      history = history_of _ _ _ (invariant_of-self-in_err-outcome c).keeps refl;
      fits = not_ok _ _ r is;
      failed = refused.failed;
      busy = refused.busy;
      exhausted = refused.exhausted;
      clock_full = refused.clock_full;
      allowed = refused.allowed;
      err = on_err _ r (adding.same_book now (book_of c.self.inside) c.room_to_ask-room.new.events.items c.room_to_ask-room.new.sent.items c.self.view_is
          c.room_to_ask-room.ensures.events c.room_to_ask-room.ensures.sent);
    }

-- ---- It is made

pub keep-requires : goal.keep-requires
keep-requires c =
    let outcome = c.in_ok-outcome.outcome in
    let nodes = c.self.inside.nodes in
    room_for_event nodes nodes (length c.self.inside.departures.items + 1) _ _ _ c.in-Ok.frames c.in-Ok.ensures.room (length outcome.sends.items)
    (kept_histories_go_on.few (book_of c.self.inside) c.self.inside.node c.ask.new.self (Ask c.args.client c.args.name c.args.mode) outcome.sends.items
    outcome.marks.items c.self.invariant.keeps c.in_ok-outcome.ensures.ok)

pub invariant_of-self-2 : goal.invariant_of-self-2
invariant_of-self-2 c =
    let now = c.args.self.now in
    let book = book_of c.self.inside in
    let kind = Ask c.args.client c.args.name c.args.mode in
    let old = c.self.inside.node in
    let new = c.ask.new.self in
    let keeps = c.self.invariant.keeps in
    let outcome = c.in_ok-outcome.outcome in
    let happened = c.in_ok-outcome.ensures.ok in
    let nodes = c.self.inside.nodes in
    let departures = c.self.inside.departures.items in
    let departure = c.in-Ok.departure in
    let few = kept_histories_go_on.few book old new kind outcome.sends.items outcome.marks.items keeps happened in
    let count = ask_counts old new c.args.client c.args.name c.args.mode outcome.sends.items outcome.marks.items
    (kept_histories_go_on.node book old keeps).2 happened
    in
    record {
      keeps = adding.kept_after now book old new c.in-Some.clock kind c.keep.new.events.items c.keep.new.sent.items keeps c.self.view_is
          (comes_as now kind c.in-Some.clock c.in-Some.ensures tt) kept_histories_go_on.node kept_histories_go_on.event c.keep.result
          (adding.happens_after c.room_to_ask-room.ensures.events c.room_to_ask-room.ensures.sent (c.keep.ensures.kept old new happened));
      reserved = reserved_asked nodes old new _ _ _ _ _ _ departures c.self.invariant.reserved c.push_reserved.new.self.items departure
          (c.push_reserved.ensures.items ∙ ap (λ (ds : List Departure). ds ++ departure ∷ []) c.room_to_ask-room.ensures.departures) c.in-Ok.ensures.departure count
          (room_after nodes nodes (length departures + 1) _ _ _ c.in-Ok.frames c.in-Ok.ensures.room (length outcome.sends.items) few _ _ _ c.keep.ensures.used);
    }

pub returns : goal.returns
returns c =
    let now = c.args.self.now in
    let book = book_of c.self.inside in
    let old = c.self.inside.node in
    let new = c.ask.new.self in
    let kind = Ask c.args.client c.args.name c.args.mode in
    let clock = c.in-Some.clock in
    let next = c.in-Some.ensures in
    let comes = comes_as now kind clock next tt in
    let keeps = c.self.invariant.keeps in
    let events = c.keep.new.events.items in
    let sent = c.keep.new.sent.items in
    let posted = c.keep.result in
    let happens = adding.happens_after c.room_to_ask-room.ensures.events c.room_to_ask-room.ensures.sent (c.keep.ensures.kept old new c.in_ok-outcome.ensures.ok) in
    let made = ask_allowed now c.args.client c.args.name c.args.mode old next.no_fault (runs_is kept_histories_go_on.determined now book old keeps c.self.view_is)
    posted (c.in_ok-outcome.ensures.allowed.0 tt) next.has_clock
    in
    record {
      ok = adding.added now book old new clock kind events sent keeps c.self.view_is comes kept_histories_go_on.node posted happens;
      history = history_of _ _ _ (invariant_of-self-2 c).keeps refl;
      fits = adding.added_fits now book old new clock kind events sent keeps c.self.view_is comes kept_histories_go_on.node kept_histories_go_on.fit posted happens;
      failed = made.failed;
      busy = made.busy;
      exhausted = made.exhausted;
      clock_full = made.clock_full;
      allowed = made.allowed;
      err = tt;
    }
