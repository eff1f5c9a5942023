use Rattle.std.proofs.Common.{List, length, Option, refl, sym, ap, ◌∙◌}
use Rattle.std.specs.Prelude.{option_map, slice_get}
use Rattle.std.proofs.lemmas.Option.{slice_get_read, slice_get_past}
use Rattle.ra_book.specs.declared.book.event.BookEvent.{BookEvent}
use Rattle.ra_book.proofs.settle_books.event_merge.next_after.Goals as goal

pub returns-in-Some : goal.returns-in-Some
returns-in-Some c =
    let all = c.as_slice.result.now in
    let taken = c.args.taken in
    let found = slice_get_read all (length all) taken c.in-Some.event.now refl c.in-Some.ensures.lookup.3.0 c.in-Some.ensures.lookup.1 in
    ap (λ (o : Option BookEvent). record { taken = taken; clock = option_map (λ e. e.clock) o })
    (sym found ∙ ap (λ (es : List BookEvent). slice_get es taken) (c.as_slice.ensures ∙ c.events.ensures.value))

pub returns-in-None : goal.returns-in-None
returns-in-None c =
    let all = c.as_slice.result.now in
    let taken = c.args.taken in
    ap (λ (o : Option BookEvent). record { taken = taken; clock = option_map (λ e. e.clock) o })
    (sym (slice_get_past all taken c.in-None.ensures.lookup.3) ∙ ap (λ (es : List BookEvent). slice_get es taken) (c.as_slice.ensures ∙ c.events.ensures.value))
