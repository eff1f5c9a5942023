use Rattle.std.proofs.Common.{List, take, sym, ◌∙◌, subst}
use Rattle.std.specs.Prelude.{All}
use Rattle.std.specs.List.{Any}
use Rattle.std.proofs.lemmas.Bool.{false≢true}
use Rattle.std.proofs.lemmas.List.{take_all}
use Rattle.std.proofs.lemmas.List.Elements.{All-append}
use Rattle.ra_frame.specs.declared.frame.Frame.{Frame}
use Rattle.ra_book.specs.declared.book.event.BookEvent.{BookEvent}
use Rattle.ra_book.specs.Book.{BookState}
use Rattle.ra_book.specs.Settled.{WasSent, received_among, all_received}
use Rattle.ra_book.proofs.Received.{all_more, all_in_received, all_in_none, some_received, some_at, all_received_more}
use Rattle.ra_book.proofs.settle_books.receipts.were_sent.Goals as goal
use Rattle.ra_book.proofs.settle_books.receipts.were_sent.Goals.{in-Receive+else-not-was_sent, in_default}

pub returns-then-not-was_sent : goal.returns-then-not-was_sent
returns-then-not-was_sent c =
    let Q = λ (f : Frame). WasSent c.args.books.now f → ⊥ in
    let here =
    some_received Q c.as_slice-events.result.now c.loop-event.event-index c.event-item.result c.in-Receive.frame c.loop-event-test.true c.event-item.is c.in-Receive.is
    (λ sent. false≢true (sym c.if-not-was_sent.true ∙ c.was_sent.ensures.1 sent))
    in
    some_at Q c.args.books.now c.loop-book.book-index c.book-item.result c.loop-book-test.true c.book-item.is
    (subst (λ (events : List BookEvent). Any Q (received_among events)) (c.as_slice-events.ensures ∙ c.events.ensures.value) here)

pub loop-event-preserved : goal.loop-event-preserved
loop-event-preserved c =
    let P = λ (f : Frame). WasSent c.args.books.now f in
    all_more P c.as_slice-events.result.now c.loop-event.event-index c.event-item.result c.loop-event-test.true c.event-item.is c.loop-event.invariant
    (elim c.match-event.branch [
      | in-Receive+else-not-was_sent w ↦ all_in_received P c.event-item.result.kind w.in-Receive.frame w.in-Receive.is (w.was_sent.ensures.0 w.if-not-was_sent.false)
      | in_default w ↦ all_in_none P c.event-item.result.kind w.in_default.not-Receive
    ])

pub loop-book-preserved : goal.loop-book-preserved
loop-book-preserved c =
    let P = λ (f : Frame). WasSent c.args.books.now f in
    let books = c.args.books.now in
    let i = c.loop-book.book-index in
    let b = c.book-item.result in
    let all = take_all c.loop-event.event-index c.as_slice-events.result.now c.loop-event-test.false ∙ c.as_slice-events.ensures ∙ c.events.ensures.value in
    let here = subst (λ (events : List BookEvent). All P (received_among events)) all c.loop-event.invariant in
    subst (All P) (sym (all_received_more books i b c.loop-book-test.true c.book-item.is)) (All-append P (all_received (take i books)) (received_among b.events) c.loop-book.invariant here)

pub returns : goal.returns
returns c =
    let books = c.args.books.now in
    subst (λ (prefix : List BookState). All (λ f. WasSent books f) (all_received prefix)) (take_all c.loop-book.book-index books c.loop-book-test.false) c.loop-book.invariant
