use Rattle.std.proofs.Common.{◌≡◌, None, Err, refl}
use Rattle.ra_book.specs.declared.error.BookError.TheVariants.{Frame}
use Rattle.ra_book.specs.declared.book.event.BookKind.TheVariants.{Receive}
use Rattle.ra_book.specs.History.{clock_of}
use Rattle.ra_book.specs.Book.{whole_events}
use Rattle.ra_book.specs.Keeping.{book_of}
use Rattle.ra_book.proofs.Kept.{history_of}
use Rattle.ra_book.proofs.Running.{some_fault, no_fault, checked_failed, clock_checked}
use Rattle.ra_book.proofs.Accepting.{not_accepted, not_taken, accepted_by, one_frame, not_for_memory, receive_failed, receive_answers, receive_passed}
use Rattle.ra_book.proofs.KeptLaws.{kept_histories_go_on}
use Rattle.ra_book.proofs.book.Book.check_receive.Goals as goal

pub returns-then-is_some-clause-checked : goal.returns-then-is_some-clause-checked
returns-then-is_some-clause-checked c = checked_failed c.args.self.now _ (history_of c.args.self.now _ _ c.self.invariant.keeps c.self.view_is)

pub returns-then-is_some-clause-refused : goal.returns-then-is_some-clause-refused
returns-then-is_some-clause-refused c = receive_failed c.args.self.now c.args.bytes.now (some_fault c.self.view_is c.if-is_some.ensures)

pub returns-in-Err : goal.returns-in-Err
returns-in-Err c =
    let now = c.args.self.now in
    let bytes = c.args.bytes.now in
    let none : now.fault ≡ None = no_fault c.self.view_is c.if-is_some.ensures in
    let why = Frame c.in-Err.fault in
    let accepted = not_accepted now.me now.nodes (clock_of (whole_events now)) bytes c.decode.result c.decode.ensures.only c.decode.ensures.fault why
    ((c.in-Err.ensures.fault c.in-Err.fault).0 refl)
    in
    record {
      checked = record { history = history_of now _ _ c.self.invariant.keeps c.self.view_is; next = tt; memory = λ m. absurd cc };
      refused = receive_passed now bytes why (receive_answers now bytes none (clock_of (whole_events now)) refl _ accepted) (Err why) refl;
    }

pub returns-in_default : goal.returns-in_default
returns-in_default c =
    let now = c.args.self.now in
    let bytes = c.args.bytes.now in
    let none : now.fault ≡ None = no_fault c.self.view_is c.if-is_some.ensures in
    let book = book_of c.self.inside in
    let node = c.self.inside.node in
    let clock = c.clock-latest.result in
    let frame = c.in-Ok.frame in
    let why = c.event_refusal.result in
    let other = not_for_memory node clock frame why c.event_refusal.ensures c.in_default.ensures.1 in
    let refused = not_taken node clock bytes frame c.in-Ok.ensures.found c.in-Ok.ensures.fits why other c.event_refusal.ensures in
    let accepted = accepted_by node book now clock bytes (Err why) (kept_histories_go_on.node book node c.self.invariant.keeps) c.self.view_is
    (not_accepted node.me node.nodes clock bytes c.decode.result c.decode.ensures.only c.decode.ensures.fault why refused)
    in
    record {
      checked = record { history = history_of now _ _ c.self.invariant.keeps c.self.view_is; next = tt; memory = other };
      refused = receive_passed now bytes why (receive_answers now bytes none clock c.clock-latest.ensures.value (Err why) accepted) (Err why) refl;
    }

pub returns : goal.returns
returns c =
    let now = c.args.self.now in
    let frame = c.in-Ok.frame in
    let none : now.fault ≡ None = no_fault c.self.view_is c.if-is_some.ensures in
    let comes = clock_checked now c.clock-latest.result (Receive frame) (history_of now _ _ c.self.invariant.keeps c.self.view_is) none c.clock-latest.ensures.value
    c.in-Ok-clock_after.clock c.in-Ok-clock_after.ensures
    in
    let read = one_frame c.args.bytes.now c.decode.result frame c.in-Ok.is c.in-Ok.ensures.found c.in-Ok.ensures.fits c.decode.ensures.only c.decode.ensures.fault in
    record {
      checked = record { history = comes.history; next = (read, comes.next); memory = tt };
      refused = tt;
    }
