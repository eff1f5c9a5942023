use Rattle.ra_book.specs.History.{clock_from}
use Rattle.std.proofs.lemmas.Option.{slice_get-get_or}
use Rattle.std.specs.Prelude.{slice_get}
use Rattle.std.proofs.Common.{◌≡◌, ◌-◌, ◌<◌, length, get_or, sym, ap, ◌∙◌, arith, ℕ, List, [], ◌∷◌, None, refl}
use Rattle.ra_book.specs.declared.book.event.BookEvent.{BookEvent}
use Rattle.ra_book.proofs.Histories.{clock_last}
use Rattle.ra_book.proofs.book.taken.latest_of.Goals as goal

-- only an empty list has no last event
no_last : (clock : ℕ) (events : List BookEvent) → None ≡ slice_get events (length events - 1) → clock ≡ clock_from clock events
no_last clock [] none = refl
no_last clock (event ∷ events) none =
    let wrong = none ∙ slice_get-get_or (event ∷ events) (length (event ∷ events) - 1) event (omega arith) in absurd (cc)

pub returns-in-Some : goal.returns-in-Some
returns-in-Some c =
    let events = c.args.events.now in
    let event = c.in-Some.event.now in
    let at : event ≡ get_or events (length events - 1) event = c.in-Some.ensures.item.1 in
    let some : 0 < length events = c.in-Some.ensures.item.3.0 in
    ap (λ (e : BookEvent). e.clock) at ∙ sym (clock_last c.args.clock events (length events - 1) event (omega (arith, some)))

pub returns-in-None : goal.returns-in-None
returns-in-None c = no_last c.args.clock c.args.events.now c.in-None.ensures.value
