use Rattle.std.proofs.Common.{◌≡◌, ◌++◌, List, ℕ, Err, true, ap, refl, sym, ◌∙◌}
use Rattle.std.specs.Prelude.{IsErrOf}
use Rattle.std.proofs.lemmas.Bool.{false≢true}
use Rattle.ra_book_text.specs.declared.error.BookFault.TheVariants.{Write}
use Rattle.ra_book_text.specs.Book.{IsOwed}
use Rattle.ra_book_text.specs.Output.{Puts}
use Rattle.ra_book_text.proofs.Faults.{fault_is}
use Rattle.ra_book_text.proofs.Put.{both, at_first}
use Rattle.ra_book_text.proofs.Served.{ended_after_first, served, unopened, unwritten, left_unwritten, all_written}
use Rattle.ra_book_text.proofs.answering.answer_from.Goals as goal
use Rattle.ra_book_text.proofs.answering.answer_from.Goals.{in-Ok, in-Err}

pub returns-then-flush-clause-answered : goal.returns-then-flush-clause-answered
returns-then-flush-clause-answered g c =
    let at = c.match-take_first in
    let o = c.take_first.ensures.opens in
    let t : (text : List ℕ) × IsOwed (g.B.Read.remaining c.args.reader.now) (g.B.Read.remaining at.reader) text at.taken
    × Puts (g.W.Write.contents c.args.writer.now) (g.W.Write.contents at.writer) c.args.out.now at.out text =
    elim at.branch [
      | in-Ok w ↦
          let s = w.take_events-taken.ensures.serves in
          rw (w.reader-is, w.writer-is, w.out-is, w.taken-is) (
            o.0 ++ s.0,
            served _ _ _ w.in-Ok.first s.1 o.0 s.0 w.take_events-taken.result (rw w.in-Ok.is at o.1) s.2,
            both _ _ _ _ _ _ _ _ o.2 s.3,
          )
      | in-Err w ↦ rw (w.reader-is, w.writer-is, w.out-is, w.taken-is) (o.0, unopened _ _ o.0 w.in-Err.fault (rw w.in-Err.is at o.1), o.2)
    ] in
    let put = both _ _ _ _ _ _ _ _ t.2 c.flush.ensures.puts _ _ (at_first _ _ c.requires.waiting) in
    (t.0, unwritten _ _ t.0 _ t.1, left_unwritten _ _ t.0 _ put)

pub returns-else-flush-clause-answered : goal.returns-else-flush-clause-answered
returns-else-flush-clause-answered g c =
    let at = c.match-take_first in
    let o = c.take_first.ensures.opens in
    let t : (text : List ℕ) × IsOwed (g.B.Read.remaining c.args.reader.now) (g.B.Read.remaining at.reader) text at.taken
    × Puts (g.W.Write.contents c.args.writer.now) (g.W.Write.contents at.writer) c.args.out.now at.out text =
    elim at.branch [
      | in-Ok w ↦
          let s = w.take_events-taken.ensures.serves in
          rw (w.reader-is, w.writer-is, w.out-is, w.taken-is) (
            o.0 ++ s.0,
            served _ _ _ w.in-Ok.first s.1 o.0 s.0 w.take_events-taken.result (rw w.in-Ok.is at o.1) s.2,
            both _ _ _ _ _ _ _ _ o.2 s.3,
          )
      | in-Err w ↦ rw (w.reader-is, w.writer-is, w.out-is, w.taken-is) (o.0, unopened _ _ o.0 w.in-Err.fault (rw w.in-Err.is at o.1), o.2)
    ] in
    let put = both _ _ _ _ _ _ _ _ t.2 c.flush.ensures.puts _ _ (at_first _ _ c.requires.waiting) in
    let works = sym c.flush.ensures.failed ∙ c.if-flush.false in
    (t.0, t.1, all_written _ _ t.0 _ _ put works (c.flush.ensures.none works))

pub returns-else-flush-clause-reader : goal.returns-else-flush-clause-reader
returns-else-flush-clause-reader g c =
    let o = c.take_first.ensures.opens in
    elim c.match-take_first.branch [
      | in-Ok w ↦ rw (w.reader-is, w.input-is, w.taken-is) (λ is. ended_after_first _ _ _ _ _ _ (rw w.in-Ok.is at o.1) (w.take_events-taken.ensures.reader is))
      | in-Err w ↦ rw (w.reader-is, w.input-is, w.taken-is) (λ is. c.take_first.ensures.reader (w.in-Err.is ∙ ap Err (fault_is _ _ _ _ refl refl is)))
    ]

pub returns-else-flush-clause-writer : goal.returns-else-flush-clause-writer
returns-else-flush-clause-writer g c =
    let at = c.match-take_first in
    let failed : IsErrOf at.taken Write → at.out.failed ≡ true =
    elim at.branch [
      | in-Ok w ↦ rw (w.out-is, w.taken-is) w.take_events-taken.ensures.writer
      | in-Err w ↦ rw (w.out-is, w.taken-is) (λ is. c.take_first.ensures.writer (w.in-Err.is ∙ ap Err (fault_is _ _ _ _ refl refl is)))
    ] in
    let works = sym c.flush.ensures.failed ∙ c.if-flush.false in
    ((λ is. c.flush.ensures.kept (failed is)), (λ bad. absurd (false≢true (sym works ∙ bad))))
