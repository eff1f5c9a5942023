use Rattle.std.proofs.Common.{◌≡◌, ◌+◌, ◌≤◌, List, ◌++◌, ◌∷◌, [], length, refl, ap, ◌∙◌, arith}
use Rattle.ra_node.proofs.Forgetting.{forget_counts}
use Rattle.ra_book.specs.declared.book.event.BookEvent.{BookEvent}
use Rattle.ra_book.specs.declared.book.event.BookKind.TheVariants.{Forget}
use Rattle.ra_book.specs.Keeping.{book_of}
use Rattle.ra_book.specs.Book.{next_clock}
use Rattle.ra_book.proofs.Kept.{history_of}
use Rattle.ra_book.proofs.Adding.{forgotten_kept, forgotten_added}
use Rattle.ra_book.proofs.Departing.{reserved_still}
use Rattle.ra_book.proofs.KeptLaws.{kept_histories_go_on}
use Rattle.ra_book.proofs.book.Book.forget.Goals as goal

pub returns-then-is_some-clause-history : goal.returns-then-is_some-clause-history
returns-then-is_some-clause-history c = history_of c.args.self.now _ _ c.self.invariant.keeps c.self.view_is

-- the event is put after the others
put : (c : goal.After-unwrap) → c.push.new.self.items ≡ c.self.inside.events.items ++ record { clock = c.in_ok-clock.clock; kind = Forget } ∷ []
put c =
    let event : BookEvent = record { clock = c.in_ok-clock.clock; kind = Forget } in
    (rw c.unwrap.ensures at c.push.ensures.ok) ∙ ap (λ (events : List BookEvent). events ++ event ∷ []) c.in-Ok.ensures.same

-- at the next clock
comes : (c : goal.After-unwrap) → c.in_ok-clock.clock ≡ next_clock c.args.self.now Forget
comes c = omega (arith, c.in_ok-clock.ensures.0, c.clock.ensures.value)

pub invariant_of-self-2 : goal.invariant_of-self-2
invariant_of-self-2 c =
    let inside = c.self.inside in
    let happened = c.forget.ensures.forgotten in
    let was = c.self.invariant.reserved in
    let room : length inside.departures.items + 1 ≤ c.reserve.new.self.spare = omega (arith, c.in-Ok.ensures.ok, c.len-leaves.ensures, inside.departures.ok.0) in
    let left = c.push.ensures.spare (omega (arith, room)) in
    record {
      keeps = forgotten_kept c.args.self.now (book_of inside) inside.node c.forget.new.self c.in_ok-clock.clock c.push.new.self.items c.self.invariant.keeps c.self.view_is
          (comes c) c.in_ok-clock.ensures.1 (put c) happened kept_histories_go_on.node kept_histories_go_on.event;
      reserved = reserved_still inside.nodes inside.node c.forget.new.self _ _ _ _ _ _ inside.departures.items was
          (forget_counts inside.node c.forget.new.self [] [] happened) (record { events = omega (arith, room, left); sent = was.room.sent });
    }

pub returns-clause-ok : goal.returns-clause-ok
returns-clause-ok c =
    forgotten_added c.args.self.now (book_of c.self.inside) c.self.inside.node c.forget.new.self c.in_ok-clock.clock c.push.new.self.items c.self.invariant.keeps c.self.view_is
    (comes c) c.in_ok-clock.ensures.1 (put c) c.forget.ensures.forgotten kept_histories_go_on.node

pub returns-clause-history : goal.returns-clause-history
returns-clause-history c = history_of _ _ _ (invariant_of-self-2 c).keeps refl
