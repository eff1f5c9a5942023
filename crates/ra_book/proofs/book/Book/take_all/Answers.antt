use Rattle.ra_book.specs.Book.{BookState}
use Rattle.std.proofs.Common.{◌≡◌, ◌+◌, ◌*◌, ◌≤◌, ℕ, length, vec_len, vec_capacity, refl, sym, ap, ◌∙◌, subst, arith}
use Rattle.ra_book.specs.Keeping.{book_of}
use Rattle.ra_book.proofs.Kept.{history_of, all_taken, all_taken_is}
use Rattle.ra_book.proofs.Departing.{events_anew, sent_anew}
use Rattle.ra_book.proofs.book.Book.take_all.Goals as goal

pub returns-in_err-frames-clause-history : goal.returns-in_err-frames-clause-history
returns-in_err-frames-clause-history c = history_of c.args.self.now _ _ c.self.invariant.keeps c.self.view_is

pub returns-in_err-events-clause-history : goal.returns-in_err-events-clause-history
returns-in_err-events-clause-history c = history_of c.args.self.now _ _ c.self.invariant.keeps c.self.view_is

pub returns-in_err-sent-clause-history : goal.returns-in_err-sent-clause-history
returns-in_err-sent-clause-history c = history_of c.args.self.now _ _ c.self.invariant.keeps c.self.view_is

pub invariant_of-self : goal.invariant_of-self
invariant_of-self c =
    let departures = c.self.inside.departures in
    let nodes = c.self.inside.nodes in
    let node = c.self.inside.node in
    let events = c.replace-old_events.new.dest in
    let sent = c.replace-old_sent.new.dest in
    let made = c.in_ok-sent.sent in
    let leaves : c.len-leaves.result ≡ length departures.items = c.len-leaves.ensures ∙ departures.ok.0 in
    let spare : events.spare ≡ c.in_ok-events.events.spare = ap (λ (e : _). e.spare) c.replace-old_events.ensures.after in
    let none : vec_len sent ≡ 0 = ap (λ (s : _). vec_len s) c.replace-old_sent.ensures.after ∙ c.in_ok-sent.ensures.len in
    let capacity : vec_capacity sent ≡ vec_capacity made = ap (λ (s : _). vec_capacity s) c.replace-old_sent.ensures.after in
    let exact : vec_capacity made ≡ 0 + c.len-leaves.result * (2 * nodes) = c.in_ok-sent.ensures.exact ∙ c.in_ok-frames.ensures in
    let room : length departures.items * (2 * nodes) ≤ vec_capacity made =
    subst (λ (k : ℕ). k * (2 * nodes) ≤ vec_capacity made) leaves (omega (arith, exact))
    in
    record {
      keeps = all_taken (book_of c.self.inside) node c.take.new.self events.items sent.items c.self.invariant.keeps
          c.take.ensures
          (ap (λ (e : _). e.items) c.replace-old_events.ensures.after ∙ c.in_ok-events.ensures.0)
          (ap (λ (s : _). s.items) c.replace-old_sent.ensures.after ∙ c.in_ok-sent.ensures.items);
      reserved = sent_anew nodes node events.spare (vec_len c.self.inside.sent) (vec_len sent) (vec_capacity c.self.inside.sent) (vec_capacity sent) departures.items
          (events_anew nodes node _ events.spare (vec_len c.self.inside.sent) (vec_capacity c.self.inside.sent) departures.items
          c.self.invariant.reserved (omega (arith, leaves, c.in_ok-events.ensures.1, spare)))
          none (subst (λ (k : ℕ). length departures.items * (2 * nodes) ≤ k) (sym capacity) room);
    }

pub returns-clause-ok : goal.returns-clause-ok
returns-clause-ok c =
    all_taken_is c.args.self.now (book_of c.self.inside) c.self.view_is c.take.new.self
    c.replace-old_events.new.dest.items c.replace-old_sent.new.dest.items
    c.take.ensures
    (ap (λ (e : _). e.items) c.replace-old_events.ensures.after ∙ c.in_ok-events.ensures.0)
    (ap (λ (s : _). s.items) c.replace-old_sent.ensures.after ∙ c.in_ok-sent.ensures.items)

pub returns-clause-history : goal.returns-clause-history
returns-clause-history c = history_of _ _ _ (invariant_of-self c).keeps refl

pub returns-clause-events : goal.returns-clause-events
returns-clause-events c = ap (λ (e : _). e.items) c.replace-old_events.ensures.value ∙ ap (λ (b : BookState). b.events) c.self.view_is

pub returns-clause-sent : goal.returns-clause-sent
returns-clause-sent c = ap (λ (s : _). s.items) c.replace-old_sent.ensures.value ∙ ap (λ (b : BookState). b.sent) c.self.view_is
