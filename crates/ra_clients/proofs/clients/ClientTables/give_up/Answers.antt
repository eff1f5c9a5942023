use Rattle.std.proofs.Common.{ℕ, Option, Some, sym, subst}
use Rattle.ra_book.specs.declared.book.event.BookKind.TheVariants.{Cancel}
use Rattle.ra_host_text.specs.declared.answer.Answer.TheVariants.{Timeout}
use Rattle.ra_clients.specs.Clients.{Clients, Turn, Turns, told}
use Rattle.ra_clients.specs.Clients.Event.{Give_up}
use Rattle.ra_clients.specs.Shown.{AreShown, IsTurn}
use Rattle.ra_clients.proofs.Shown.{given_up, nobody_overdue}
use Rattle.ra_clients.proofs.clients.ClientTables.give_up.Goals as goal

pub returns-in_default-clause-ok : goal.returns-in_default-clause-ok
returns-in_default-clause-ok c =
    let old = c.args.self.now in
    (λ s k name shows overdue. nobody_overdue old.time old.number_of old.closed old.roster old.released s k name shows c.in_default.ensures overdue, λ s shows. shows)

pub returns-clause-ok : goal.returns-clause-ok
returns-clause-ok c =
    λ l s shows.
    let old = c.args.self.now in
    let number = c.in-Some.due.number in
    let name = c.in-Some.due.name in
    subst
    (λ (o : Option ℕ).
    (t : Turn) × Turns l s (Give_up number name) t
    × IsTurn (λ (u : Clients). AreShown old.time old.number_of old.closed c.end.new.self old.released u) t (told o (Timeout name)) (Some (Cancel number name)))
    (sym c.connection-client.ensures)
    (given_up old.time old.number_of old.closed old.roster c.end.new.self old.released s shows number name l c.in-Some.ensures c.in_ok-end.ensures.ok)
