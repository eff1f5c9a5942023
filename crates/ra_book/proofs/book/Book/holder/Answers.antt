use Rattle.std.proofs.Common.{subst}
use Rattle.ra_book.specs.Book.{BookState, LeadsTo}
use Rattle.ra_book.proofs.Kept.{history_of}
use Rattle.ra_book.proofs.book.Book.holder.Goals as goal

pub returns-clause-history : goal.returns-clause-history
returns-clause-history c = history_of c.args.self.now _ _ c.self.invariant.keeps c.self.view_is

pub returns-clause-value : goal.returns-clause-value
returns-clause-value c = (
  c.self.inside.node,
  subst (λ (b : BookState). LeadsTo b c.self.inside.node) c.self.view_is c.self.invariant.keeps.leads,
  c.holder.ensures.value,
)
