use Rattle.std.proofs.Common.{ℕ, ◌*◌, ◌≤◌, Bool, true, false, length, vec_len, vec_capacity, refl, sym, subst, arith}
use Rattle.ra_node.specs.Events.{NodeEvent}
use Rattle.ra_node.specs.Room.{HasRoomToLeave}
use Rattle.ra_book.specs.declared.book.event.BookKind.{BookKind}
use Rattle.ra_book.specs.declared.error.BookError.TheVariants.{Memory}
use Rattle.ra_book.specs.Endings.{kind_of, EndsAt}
use Rattle.ra_book.specs.History.{node_event}
use Rattle.ra_book.specs.Keeping.{book_of, Happens}
use Rattle.ra_book.proofs.Departing.{passed_memory, is_no_refusal, reserved_left, reserved_grown, taken_out, put_back, still_empty, no_less, room_to_leave}
use Rattle.ra_book.proofs.Endings.{of_any_book, most_sends, ending_counts, request_counts, no_memory_refused, ending_refused, ending_allowed, ending_passed}
use Rattle.ra_book.proofs.Kept.{history_of}
use Rattle.ra_book.proofs.Running.{runs_is, comes_as, not_ok, on_err}
use Rattle.ra_book.proofs.Adding as adding
use Rattle.ra_book.proofs.KeptLaws.{kept_histories_go_on}
use Rattle.ra_book.proofs.book.Book.end.Goals as goal

-- ---- What was made for it

pub end_at-requires-clause-nothing : goal.end_at-requires-clause-nothing
end_at-requires-clause-nothing c =
    (taken_out c.self.inside.nodes c.self.inside.departures.items c.pop.new.self.items c.in-Some.departure c.in-Some.ensures.items c.self.invariant.reserved.each).nothing

pub end_at-requires-clause-room : goal.end_at-requires-clause-room
end_at-requires-clause-room c =
    let made = taken_out c.self.inside.nodes c.self.inside.departures.items c.pop.new.self.items c.in-Some.departure c.in-Some.ensures.items c.self.invariant.reserved.each in
    let nodes = (kept_histories_go_on.node (book_of c.self.inside) c.self.inside.node c.self.invariant.keeps).1 in
    subst (λ k. HasRoomToLeave k c.in-Some.departure.outcome) (sym nodes) made.room

-- ---- It is refused

pub returns-in_err-clock : goal.returns-in_err-clock
returns-in_err-clock c =
    let r = c.from_residual.result in
    let is = c.from_residual.ensures.1 in
    record {
      ok = not_ok _ _ r is;
      history = c.in_err-clock.ensures.checked.history;
      fits = not_ok _ _ r is;
      answers = ending_passed c.args.self.now c.args.ending.now c.in_err-clock.field-0.0 c.in_err-clock.ensures.refused r is;
      no_memory = passed_memory c.in_err-clock.field-0.0 c.in_err-clock.ensures.checked.memory r is;
      err = on_err _ r refl;
    }

-- ---- No client waits, is queued or holds

pub invariant_of-self : goal.invariant_of-self
invariant_of-self c =
    let inside = c.self.inside in
    record {
      keeps = c.self.invariant.keeps;
      reserved = reserved_grown inside.nodes inside.node inside.node _ _ _ _ _ _ inside.departures.items c.self.invariant.reserved c.pop.new.self.items refl
          (still_empty inside.departures.items c.pop.new.self.items c.in_default.ensures.items) (no_less inside.events.spare (vec_len inside.sent) (vec_capacity inside.sent));
    }

pub returns-in_default : goal.returns-in_default
returns-in_default c =
    let now = c.args.self.now in
    let ending = c.args.ending.now in
    let node = c.self.inside.node in
    record {
      ok = tt;
      history = history_of _ _ _ (invariant_of-self c).keeps refl;
      fits = tt;
      answers = ending_refused now ending node c.in_ok-clock.ensures.checked.next.no_fault
          (runs_is kept_histories_go_on.determined now (book_of c.self.inside) node c.self.invariant.keeps c.self.view_is)
          (λ may.
          let one = request_counts ending node may in
          omega (arith, one, c.self.invariant.reserved.many, c.self.inside.departures.ok.0, c.in_default.ensures.cases.0))
          c.refusal.result c.refusal.ensures;
      no_memory = no_memory_refused ending c.refusal.result c.refusal.ensures;
      err = c.self.view_is;
    }

-- ---- The client has no such request

refused : (c : goal.After-refusal-then-not-end_at) → EndsAt c.args.ending.now c.self.inside.node c.in-Some.departure.outcome false c.end_at.new.node c.end_at.new.outcome
refused c =
    subst (λ (b : Bool). EndsAt c.args.ending.now c.self.inside.node c.in-Some.departure.outcome b c.end_at.new.node c.end_at.new.outcome) c.if-not-end_at.true c.end_at.ensures

pub invariant_of-self-then-not-end_at : goal.invariant_of-self-then-not-end_at
invariant_of-self-then-not-end_at c =
    let inside = c.self.inside in
    let node = inside.node in
    let departure = c.in-Some.departure in
    let none = refused c in
    record {
      keeps = adding.same_kept (book_of inside) node c.end_at.new.node _ _ c.self.invariant.keeps refl refl none.1;
      reserved = reserved_grown inside.nodes node c.end_at.new.node _ _ _ _ _ _ inside.departures.items c.self.invariant.reserved
          c.push_reserved.new.self.items none.1
          (put_back inside.departures.items c.pop.new.self.items c.push_reserved.new.self.items departure c.end_at.new.outcome c.in-Some.ensures.items none.2
          c.push_reserved.ensures.items) (no_less inside.events.spare (vec_len inside.sent) (vec_capacity inside.sent));
    }

pub returns-then-not-end_at : goal.returns-then-not-end_at
returns-then-not-end_at c =
    let now = c.args.self.now in
    let ending = c.args.ending.now in
    let node = c.self.inside.node in
    record {
      ok = tt;
      history = history_of _ _ _ (invariant_of-self-then-not-end_at c).keeps refl;
      fits = tt;
      answers = ending_refused now ending node c.in_ok-clock.ensures.checked.next.no_fault
          (runs_is kept_histories_go_on.determined now (book_of c.self.inside) node c.self.invariant.keeps c.self.view_is)
          (refused c).0 c.refusal-then-not-end_at.result c.refusal-then-not-end_at.ensures;
      no_memory = no_memory_refused ending c.refusal-then-not-end_at.result c.refusal-then-not-end_at.ensures;
      err = c.self.view_is;
    }

-- ---- It is made

-- it happened at the node
happened : (c : goal.After-keep-arg-2-1) → EndsAt c.args.ending.now c.self.inside.node c.in-Some.departure.outcome true c.end_at.new.node c.end_at.new.outcome
happened c =
    subst (λ (b : Bool). EndsAt c.args.ending.now c.self.inside.node c.in-Some.departure.outcome b c.end_at.new.node c.end_at.new.outcome) c.if-not-end_at.false c.end_at.ensures

few : (c : goal.After-keep-arg-2-1) → length c.end_at.new.outcome.sends.items ≤ 2 * c.self.inside.nodes
few c =
    let ending = c.args.ending.now in
    let outcome = c.end_at.new.outcome in
    subst (λ (k : ℕ). length outcome.sends.items ≤ k) (most_sends ending c.self.inside.nodes)
    (kept_histories_go_on.few (book_of c.self.inside) c.self.inside.node c.end_at.new.node (kind_of ending) outcome.sends.items outcome.marks.items
    c.self.invariant.keeps (happened c).1)

pub keep-requires : goal.keep-requires
keep-requires c =
    let nodes = c.self.inside.nodes in
    let departures = c.self.inside.departures.items in
    let sent = c.self.inside.sent in
    room_to_leave nodes (length c.end_at.new.outcome.sends.items) departures c.pop.new.self.items c.in-Some.departure c.self.inside.events.spare (vec_len sent)
    (vec_capacity sent) c.in-Some.ensures.items
    (taken_out nodes departures c.pop.new.self.items c.in-Some.departure c.in-Some.ensures.items c.self.invariant.reserved.each) c.self.invariant.reserved.room (few c)

-- it follows the events so far
happens : (c : goal.After-keep) → Happens c.self.inside.node c.end_at.new.node c.self.inside.events.items c.keep.new.events.items c.self.inside.sent.items c.keep.new.sent.items
    (record { clock = c.in_ok-clock.clock; kind = kind_of c.args.ending.now }) c.keep.result
happens c =
    let old = c.self.inside.node in
    let new = c.end_at.new.node in
    let outcome = c.end_at.new.outcome in
    subst
    (λ (k : BookKind). NodeEvent old (node_event k) outcome.sends.items outcome.marks.items new
    → Happens old new c.self.inside.events.items c.keep.new.events.items c.self.inside.sent.items c.keep.new.sent.items (record { clock = c.in_ok-clock.clock; kind = k }) c.keep.result)
    c.kind-kind.ensures (c.keep.ensures.kept old new) (happened c.before).1

pub invariant_of-self-2 : goal.invariant_of-self-2
invariant_of-self-2 c =
    let book = book_of c.self.inside in
    let ending = c.args.ending.now in
    let kind = kind_of ending in
    let old = c.self.inside.node in
    let new = c.end_at.new.node in
    let outcome = c.end_at.new.outcome in
    let count = ending_counts ending old new outcome.sends.items outcome.marks.items (happened c.before).1 in
    record {
      keeps = adding.kept_after c.args.self.now book old new c.in_ok-clock.clock kind c.keep.new.events.items c.keep.new.sent.items c.self.invariant.keeps c.self.view_is
          (comes_as c.args.self.now kind c.in_ok-clock.clock c.in_ok-clock.ensures.checked.next (of_any_book ending c.args.self.now)) kept_histories_go_on.node
          kept_histories_go_on.event c.keep.result (happens c);
      reserved = reserved_left c.self.inside.nodes old new c.self.inside.events.spare c.keep.new.events.spare _ _ _ _ c.self.inside.departures.items
          c.self.invariant.reserved c.pop.new.self.items c.in-Some.departure (length outcome.sends.items) c.in-Some.ensures.items count (few c.before) c.keep.ensures.used;
    }

pub returns : goal.returns
returns c =
    let now = c.args.self.now in
    let node = c.self.inside.node in
    let ending = c.args.ending.now in
    let kind = kind_of ending in
    let next = c.in_ok-clock.ensures.checked.next in
    let comes = comes_as now kind c.in_ok-clock.clock next (of_any_book ending now) in
    let events = c.keep.new.events.items in
    let sent = c.keep.new.sent.items in
    let posted = c.keep.result in
    record {
      ok = adding.added now (book_of c.self.inside) node c.end_at.new.node c.in_ok-clock.clock kind events sent c.self.invariant.keeps c.self.view_is comes
          kept_histories_go_on.node posted (happens c);
      history = history_of _ _ _ (invariant_of-self-2 c).keeps refl;
      fits = adding.added_fits now (book_of c.self.inside) node c.end_at.new.node c.in_ok-clock.clock kind events sent c.self.invariant.keeps c.self.view_is comes
          kept_histories_go_on.node kept_histories_go_on.fit posted (happens c);
      answers = ending_allowed now ending node next.no_fault
          (runs_is kept_histories_go_on.determined now (book_of c.self.inside) node c.self.invariant.keeps c.self.view_is) posted (happened c.before).0 next.has_clock;
      no_memory = is_no_refusal posted Memory;
      err = tt;
    }
