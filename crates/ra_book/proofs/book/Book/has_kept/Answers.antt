use Rattle.std.proofs.Common.{◌↔◌, List, Contains, IsTrue, false, sym, ap, ◌∙◌, subst}
use Rattle.ra_book.specs.declared.book.sent.Sent.{Sent}
use Rattle.ra_book.specs.Book.{BookState}
use Rattle.ra_book.specs.Keeping.{Ascends, book_of}
use Rattle.ra_book.proofs.KeptLaws.{kept_histories_go_on}
use Rattle.ra_book.proofs.book.Book.has_kept.Goals as goal

pub is_kept-requires : goal.is_kept-requires
is_kept-requires c =
    subst Ascends (sym c.as_slice.ensures.value) (kept_histories_go_on.ascends (book_of c.self.inside) c.self.inside.node c.self.invariant.keeps)

pub returns : goal.returns
returns c =
    subst (λ (ss : List Sent). IsTrue c.is_kept.result ↔ Contains ss (record { frame = c.args.frame.now; lost = false }))
    (c.as_slice.ensures.value ∙ ap (λ (b : BookState). b.sent) c.self.view_is) c.is_kept.ensures
