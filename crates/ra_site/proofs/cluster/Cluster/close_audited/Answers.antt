-- Each site that is closed gives a book with its history.
use Rattle.std.proofs.Common.{[], ◌∷◌, length, ap, sym, subst, arith}
use Rattle.std.specs.Prelude.{All}
use Rattle.std.proofs.lemmas.List.Elements.{All-append, All-nil, All-cons}
use Rattle.ra_book.specs.Book.{HasHistory}
use Rattle.ra_site.proofs.cluster.Cluster.close_audited.Goals as goal

pub loop-site-preserved : goal.loop-site-preserved
loop-site-preserved g c =
    let steps = c.in-Some.ensures.steps in
    let more = ap length steps.0 in
    record {
      histories =
          subst (All HasHistory) (sym c.push_reserved.ensures.items)
          (All-append HasHistory c.loop-site.books.items (c.close.result ∷ []) c.loop-site.invariant.histories
          (All-cons HasHistory c.close.result [] c.close.ensures.history (All-nil HasHistory)));
      many = omega (arith, steps.1, more, c.loop-site.invariant.many, c.push_reserved.ensures.len);
      counted = omega (arith, steps.1, more, c.loop-site.invariant.counted);
      room = omega (arith, steps.1, more, c.loop-site.invariant.room, c.push_reserved.ensures.len, c.push_reserved.ensures.capacity);
    }
