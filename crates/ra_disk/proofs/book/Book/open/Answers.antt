use Rattle.std.proofs.Common.{◌≤◌, rules, refl, sym, ◌∙◌, ap, subst, length}
use Rattle.ra_disk.specs.Lines.{whole}
use Rattle.ra_disk.specs.Contents.{Contents}
use Rattle.ra_disk.specs.Book.{IsReady}
use Rattle.ra_disk.specs.Book.State.{Open}
use Rattle.ra_disk.proofs.BookLemmas.{within_file, cut_text, opened_is, opened_is_ready}
use Rattle.ra_disk.proofs.book.Book.open.Goals as goal

pub cut-requires : goal.cut-requires
cut-requires g c =
    let f = g.F.BookFile.contents c.args.file in
    let same = c.whole_len-len.ensures ∙ ap length (ap whole c.deref.ensures.value) in
    subst (λ (x : Contents). c.whole_len-len.result ≤ x.size) (sym c.read.ensures.contents)
    (within_file f c.in-Ok.text.items c.whole_len-len.result c.in-Ok.ensures.bytes same)

pub invariant_of-result : goal.invariant_of-result
invariant_of-result g c =
    let f = g.F.BookFile.contents c.args.file in
    let same = c.whole_len-len.ensures ∙ ap length (ap whole c.deref.ensures.value) in
    let is = opened_is f (g.F.BookFile.contents c.read.new.self) (g.F.BookFile.contents c.cut.new.self) (g.F.BookFile.contents c.sync.new.self)
    c.in-Ok.text.items c.whole_len-len.result c.read.ensures.contents c.in-Ok.ensures.bytes same c.in_default.ensures.ok c.in_default-sync.ensures.ok in
    record { ready = λ none. subst IsReady (sym is) (opened_is_ready f) }

pub returns-clause-ok : goal.returns-clause-ok
returns-clause-ok g c =
    let f = g.F.BookFile.contents c.args.file in
    let same = c.whole_len-len.ensures ∙ ap length (ap whole c.deref.ensures.value) in
    record {
      lines = c.truncate.ensures.items ∙ cut_text f c.in-Ok.text.items c.whole_len-len.result c.in-Ok.ensures.bytes same;
      is_open = refl;
      state = ap Open (opened_is f (g.F.BookFile.contents c.read.new.self) (g.F.BookFile.contents c.cut.new.self) (g.F.BookFile.contents c.sync.new.self)
          c.in-Ok.text.items c.whole_len-len.result c.read.ensures.contents c.in-Ok.ensures.bytes same c.in_default.ensures.ok c.in_default-sync.ensures.ok);
      past = search (rules, c.sync.ensures.past, c.cut.ensures.past, c.read.ensures.past, c.read.ensures.contents, c.in_default.ensures.ok, same, c.in-Ok.ensures.bytes);
      faults = search (rules, c.in_default-sync.ensures.cause, c.in_default.ensures.cause, c.in-Ok.ensures.faults);
    }
