use Rattle.std.proofs.Common.{◌≡◌, ◌+◌, refl, ◌<◌, ◌^◌, ◌++◌, ◌∷◌, List, ℕ, [], ap, string_bytes, codes, decimal, get_or, length, subst, sym, take, ◌∙◌, arith, rules}
use Rattle.std.proofs.lemmas.List.{take_more, take_all}
use Rattle.std.specs.Prelude.{map}
use Rattle.std.specs.List.{AllZip}
use Rattle.ra_text.specs.Lines.{field}
use Rattle.ra_text.proofs.Drafts.{adds_as, adds_both}
use Rattle.ra_book.specs.declared.book.event.BookEvent.{BookEvent}
use Rattle.ra_book_text.specs.BookText.{first_text, version_text}
use Rattle.ra_book_text.specs.Written.{IsWrittenEvent, SaysEvents, version_for}
use Rattle.ra_book_text.proofs.WrittenLines.{none_unfit, none_yet, one_more, whole_book}
use Rattle.ra_book_text.proofs.book_writing.book_text.Goals as goal

pub loop-event-init : goal.loop-event-init
loop-event-init c =
    let number = λ (n : ℕ). field (decimal n) in
    let node = adds_as c.push_number.ensures (ap number (c.get.ensures.value ∙ c.me.ensures.value)) in
    let nodes = adds_as c.push_number-2.ensures (ap number c.nodes.ensures.value) in
    let start = adds_as c.push_number-3.ensures (ap number c.start.ensures.value) in
    let listed = c.as_slice.ensures ∙ c.events.ensures.value in
    let words = adds_as c.push.ensures (c.words.ensures ∙ ap version_text (c.version_of-version.ensures ∙ ap version_for listed)) in
    let adds = adds_both (adds_both (adds_both (adds_both words node) nodes) start) c.end_line.ensures in
    none_yet c.end_line.new.self _ (adds.says [] c.new-text.ensures.says)

pub loop-event-preserved : goal.loop-event-preserved
loop-event-preserved c =
    let book = c.args.book.now in
    let events = book.events in
    let i = c.loop-event.event-index in
    let event = c.event-item.result in
    let all : c.as_slice-event-items.result.now ≡ events = c.as_slice-event-items.ensures ∙ c.events-2.ensures.value in
    let item : event ≡ get_or events i event = c.event-item.is ∙ ap (λ (es : List BookEvent). get_or es i event) all in
    let more : i < length events = subst (λ (es : List BookEvent). i < length es) all c.loop-event-test.true in
    let next : take (i + 1) events ≡ take i events ++ event ∷ [] = take_more events i event more ∙ ap (λ (e : BookEvent). take i events ++ e ∷ []) (sym item) in
    let first = first_text (version_for book.events) book.me book.nodes book.start ++ codes "\n" in
    subst (SaysEvents c.push_event.new.text first) (sym next)
    (one_more c.loop-event.text c.push_event.new.text first (take i events) event c.loop-event.invariant (rw c.if-not-push_event.false at c.push_event.ensures))

pub returns-then-not-push_event-clause-unfit : goal.returns-then-not-push_event-clause-unfit
returns-then-not-push_event-clause-unfit c =
    let events = c.args.book.now.events in
    let i = c.loop-event.event-index in
    let event = c.event-item.result in
    let all : c.as_slice-event-items.result.now ≡ events = c.as_slice-event-items.ensures ∙ c.events-2.ensures.value in
    let item : event ≡ get_or events i event = c.event-item.is ∙ ap (λ (es : List BookEvent). get_or es i event) all in
    let more : i < length events = subst (λ (es : List BookEvent). i < length es) all c.loop-event-test.true in
    ((λ _. (i, event, more, sym item, rw c.if-not-push_event.true at c.push_event.ensures)), (λ _. refl))

pub returns-in_err-finish-clause-unfit : goal.returns-in_err-finish-clause-unfit
returns-in_err-finish-clause-unfit c =
    let book = c.args.book.now in
    let i = c.loop-event.event-index in
    let all : c.as_slice-event-items.result.now ≡ book.events = c.as_slice-event-items.ensures ∙ c.events-2.ensures.value in
    let whole : take i book.events ≡ book.events =
    subst (λ (es : List BookEvent). take i es ≡ es) all (take_all i c.as_slice-event-items.result.now c.loop-event-test.false)
    in
    let (lines, are, says) = c.loop-event.invariant in (
      first_of (search rules, grind arith),
      (λ unfit. absurd (none_unfit lines book.events
          (subst (λ (es : List BookEvent). AllZip IsWrittenEvent lines (map (λ (e : BookEvent). e.kind) es)) whole are) unfit)),
    )

pub returns-clause-unfit : goal.returns-clause-unfit
returns-clause-unfit c =
    let book = c.args.book.now in
    let i = c.loop-event.event-index in
    let all : c.as_slice-event-items.result.now ≡ book.events = c.as_slice-event-items.ensures ∙ c.events-2.ensures.value in
    let whole : take i book.events ≡ book.events =
    subst (λ (es : List BookEvent). take i es ≡ es) all (take_all i c.as_slice-event-items.result.now c.loop-event-test.false)
    in
    let (lines, are, says) = c.loop-event.invariant in (
      (λ is. absurd cc),
      (λ unfit. absurd (none_unfit lines book.events
          (subst (λ (es : List BookEvent). AllZip IsWrittenEvent lines (map (λ (e : BookEvent). e.kind) es)) whole are) unfit)),
    )

pub returns-clause-ok : goal.returns-clause-ok
returns-clause-ok c =
    let book = c.args.book.now in
    let i = c.loop-event.event-index in
    let all : c.as_slice-event-items.result.now ≡ book.events = c.as_slice-event-items.ensures ∙ c.events-2.ensures.value in
    let whole : take i book.events ≡ book.events =
    subst (λ (es : List BookEvent). take i es ≡ es) all (take_all i c.as_slice-event-items.result.now c.loop-event-test.false)
    in
    let (lines, are, says) = c.loop-event.invariant in
    let below : book.start < 2 ^ 64 = omega (arith, c.start.ensures.value) in
    whole_book book (string_bytes c.in_ok-finish.field-0) lines c.events-2.ensures.history below
    (subst (λ (es : List BookEvent). AllZip IsWrittenEvent lines (map (λ (e : BookEvent). e.kind) es)) whole are)
    (c.in_ok-finish.ensures.text _ says)
