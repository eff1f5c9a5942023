use Rattle.std.proofs.Common.{◌≡◌, ◌≢◌, ◌+◌, true, false, List, ◌++◌, map, take, BTreeSet, sym, ◌∙◌, subst}
use Rattle.std.specs.Prelude.{AllPairs}
use Rattle.std.specs.BTreeSet as sorted
use Rattle.std.proofs.lemmas.List.{take_all, append-nil}
use Rattle.ra_book.specs.declared.book.event.BookEvent.{BookEvent}
use Rattle.ra_book.specs.Keys.{OrderKey, HasEach, message_key, messages_among}
use Rattle.ra_book.specs.Book.{BookState}
use Rattle.ra_book.specs.Settled.{Repeats, all_received}
use Rattle.ra_book.proofs.KeyOrders.{key_cmp}
use Rattle.ra_book.proofs.KeySets.{none_yet, when_new, when_old}
use Rattle.ra_book.proofs.Received.{message_put, message_again, each_more, each_same, repeats_then, all_messages_more, all_repeat}
use Rattle.ra_book.proofs.settle_books.receipts.has_no_duplicates.Goals as goal
use Rattle.ra_book.proofs.settle_books.receipts.has_no_duplicates.Goals.{in-Receive+in_ok-insert+else-not-branch, in_default}

pub loop-book-init : goal.loop-book-init
loop-book-init c = none_yet (λ m. message_key m) c.new-came.result c.new-came.ensures.empty

pub loop-event-init : goal.loop-event-init
loop-event-init c =
    let before = map (λ f. f.message) (all_received (take c.loop-book.book-index c.args.books.now)) in
    subst (HasEach c.loop-book.came) (sym (append-nil before)) c.loop-book.invariant

pub returns-then-not-branch : goal.returns-then-not-branch
returns-then-not-branch c =
    let books = c.args.books.now in
    let before = map (λ f. f.message) (all_received (take c.loop-book.book-index books)) in
    let events = c.as_slice-events.result.now in
    let i = c.loop-event.event-index in
    let frame = c.in-Receive.frame in
    let is = subst (λ (k : OrderKey). sorted.contains key_cmp c.loop-event.came k ≡ true) c.message_key.ensures (when_old _ _ c.in_ok-insert.ensures.added c.if-not-branch.true) in
    let here =
    repeats_then before events i c.event-item.result c.loop-event-test.true c.event-item.is frame c.in-Receive.is
    (message_again c.loop-event.came (before ++ messages_among (take i events)) frame.message c.loop-event.invariant is)
    in
    all_repeat books c.loop-book.book-index c.book-item.result c.loop-book-test.true c.book-item.is
    (subst (λ (es : List BookEvent). Repeats (before ++ messages_among es)) (c.as_slice-events.ensures ∙ c.events.ensures.value) here)

pub loop-event-preserved : goal.loop-event-preserved
loop-event-preserved c =
    let list = map (λ f. f.message) (all_received (take c.loop-book.book-index c.args.books.now)) in
    let events = c.as_slice-events.result.now in
    let i = c.loop-event.event-index in
    let before = c.loop-event.invariant in
    elim c.match-event.branch [
      | in-Receive+in_ok-insert+else-not-branch w ↦
          let frame = w.in-Receive.frame in
          let is = subst (λ (k : OrderKey). sorted.contains key_cmp c.loop-event.came k ≡ false) w.message_key.ensures (when_new _ _ w.in_ok-insert.ensures.added w.if-not-branch.false) in
          let put = subst (λ (k : OrderKey). sorted.Updates key_cmp c.loop-event.came w.insert.new.self k true) w.message_key.ensures w.in_ok-insert.ensures.updates in
          subst (λ (set : BTreeSet OrderKey). HasEach set (list ++ messages_among (take (i + 1) events))) (sym w.came-is)
          (each_more list events i c.event-item.result c.loop-event-test.true c.event-item.is w.insert.new.self frame w.in-Receive.is
          (message_put c.loop-event.came w.insert.new.self (list ++ messages_among (take i events)) frame.message before is put))
      | in_default w ↦
          subst (λ (set : BTreeSet OrderKey). HasEach set (list ++ messages_among (take (i + 1) events))) (sym w.came-is)
          (each_same list events i c.event-item.result c.loop-event-test.true c.event-item.is c.loop-event.came w.in_default.not-Receive before)
    ]

pub loop-book-preserved : goal.loop-book-preserved
loop-book-preserved c =
    let books = c.args.books.now in
    let i = c.loop-book.book-index in
    let before = map (λ f. f.message) (all_received (take i books)) in
    let all = take_all c.loop-event.event-index c.as_slice-events.result.now c.loop-event-test.false ∙ c.as_slice-events.ensures ∙ c.events.ensures.value in
    subst (HasEach c.loop-event.came) (sym (all_messages_more books i c.book-item.result c.loop-book-test.true c.book-item.is))
    (subst (λ (es : List BookEvent). HasEach c.loop-event.came (before ++ messages_among es)) all c.loop-event.invariant)

pub returns : goal.returns
returns c =
    subst (λ (books : List BookState). AllPairs (λ a b. a ≢ b) (map (λ f. f.message) (all_received books))) (take_all c.loop-book.book-index c.args.books.now c.loop-book-test.false) c.loop-book.invariant.1
