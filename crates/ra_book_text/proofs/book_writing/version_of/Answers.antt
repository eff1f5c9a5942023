use Rattle.std.proofs.Common.{sym, subst, ◌∙◌}
use Rattle.std.specs.Prelude.{All}
use Rattle.std.proofs.lemmas.Bool.{false≢true}
use Rattle.std.proofs.lemmas.List.{take_all}
use Rattle.std.proofs.lemmas.List.Elements.{All-nil, All-more}
use Rattle.ra_book.specs.declared.book.event.BookEvent.{BookEvent}
use Rattle.ra_book_text.specs.declared.next_line.book_version.BookVersion.TheVariants.{One}
use Rattle.ra_book_text.specs.BookText.{AllowsKind}
use Rattle.ra_book_text.proofs.WrittenLines.{version_one, version_two}
use Rattle.ra_book_text.proofs.book_writing.version_of.Goals as goal

pub loop-event-init : goal.loop-event-init
loop-event-init c = All-nil (λ (event : BookEvent). AllowsKind One event.kind)

pub loop-event-preserved : goal.loop-event-preserved
loop-event-preserved c =
    let P = λ (event : BookEvent). AllowsKind One event.kind in
    All-more P c.args.events.now c.loop-event.event-index c.event-item.result c.loop-event-test.true c.loop-event.invariant
    (subst P c.event-item.is (c.allows.ensures.0 c.if-not-allows.false))

pub returns-then-not-allows : goal.returns-then-not-allows
returns-then-not-allows c =
    version_two c.args.events.now c.loop-event.event-index c.event-item.result c.loop-event-test.true (sym c.event-item.is)
    (λ ok. false≢true (sym c.if-not-allows.true ∙ c.allows.ensures.1 ok))

pub returns : goal.returns
returns c =
    version_one c.args.events.now
    (subst (All (λ (event : BookEvent). AllowsKind One event.kind)) (take_all c.loop-event.event-index c.args.events.now c.loop-event-test.false) c.loop-event.invariant)
