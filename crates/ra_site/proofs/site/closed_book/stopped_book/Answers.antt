use Rattle.std.proofs.Common.{ap, ◌∙◌}
use Rattle.ra_book.specs.Book.{BookState}
use Rattle.ra_site.proofs.site.closed_book.stopped_book.Goals as goal

pub returns : goal.returns
returns c =
    let opened = c.in-Ok.ensures.ok in
    let is = c.fail.ensures.value in
    record {
      me_is = ap (λ (b : BookState). b.me) is ∙ ap (λ (b : BookState). b.me) opened;
      nodes_are = ap (λ (b : BookState). b.nodes) is ∙ ap (λ (b : BookState). b.nodes) opened;
      start_is = ap (λ (b : BookState). b.start) is ∙ ap (λ (b : BookState). b.start) opened;
      whole = ap (λ (b : BookState). b.taken) is ∙ ap (λ (b : BookState). b.taken) opened;
      history = c.fail.ensures.history;
    }
