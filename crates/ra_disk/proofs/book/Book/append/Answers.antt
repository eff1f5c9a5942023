use Rattle.std.proofs.Common.{sym, ◌∙◌}
use Rattle.ra_disk.proofs.BookLemmas.{ready_after_append}
use Rattle.ra_disk.proofs.book.Book.append.Goals as goal

pub invariant_of-self : goal.invariant_of-self
invariant_of-self g c = record {
  ready = λ none. ready_after_append (g.F.BookFile.contents c.args.self.now.file) (g.F.BookFile.contents c.append-outcome.new.self) c.args.lines.now
      c.append-outcome.result (c.args.self.now.ready c.in_default.is) c.requires c.append-outcome.ensures.ok (sym c.err-self.ensures.value ∙ none);
}
