use Rattle.ra_book.specs.Book.{TakenState}
use Rattle.ra_book.specs.declared.book.sent.Sent.{Sent}
use Rattle.ra_book.specs.declared.book.event.BookEvent.{BookEvent}
use Rattle.ra_stamp.specs.Sequence.{Listed}
use Rattle.std.proofs.Common.{sym, Vec, Global, true, ap}
use Rattle.std.proofs.lemmas.Bool.{false≢true}
use Rattle.ra_book.proofs.TakenEvents.{clock_after_taking, all_joined}
use Rattle.ra_book.proofs.book.taken.Taken.take.Goals as goal

pub invariant_of-self : goal.invariant_of-self
invariant_of-self c = record {
  clock =
      clock_after_taking (λ events. events.items) c.self.inside.events.items c.and-self-inside.result.items c.args.events.now c.self.inside.clock
      c.latest_of-self-inside.result c.as_slice.result.now c.self.invariant.clock c.as_slice.ensures c.latest_of-self-inside.ensures c.and-self-inside.ensures;
  events = λ no. absurd (false≢true (sym no));
  sent = λ no. absurd (false≢true (sym no));
}

pub returns : goal.returns
returns c =
    let events_are =
    all_joined (λ (events : Listed BookEvent). events.items) c.self.inside.events.items c.and-self-inside.result.items c.args.events.now c.args.self.now.events
    (ap (λ (t : TakenState). t.events) c.self.view_is) c.and-self-inside.ensures
    in
    let sent_are =
    all_joined (λ (sent : Vec Sent Global). sent.items) c.self.inside.sent.items c.and-self-inside-2.result.items c.args.sent.now c.args.self.now.sent
    (ap (λ (t : TakenState). t.sent) c.self.view_is) c.and-self-inside-2.ensures
    in
    λ i. record { some = true; events = events_are i; sent = sent_are i }
