use Rattle.std.proofs.Common.{◌≡◌, ◌<◌, ℕ, Bool, List, Ok, Err, [], arith, codes, length, refl, sym, ◌∙◌, subst, rules}
use Rattle.std.proofs.lemmas.Option.{none-some}
use Rattle.ra_book_text.specs.Answers.{refused_line}
use Rattle.ra_book_text.specs.BookText.{IsFirst, IsNoFirst}
use Rattle.ra_book_text.specs.NextLine.{ReadsLine}
use Rattle.ra_book_text.specs.declared.answering.line_refusal.Refusal.TheVariants as refusal
use Rattle.ra_book_text.specs.declared.error.BookFault.TheVariants.{Line}
use Rattle.ra_book_text.proofs.Put.{both, renamed}
use Rattle.ra_book_text.proofs.Served.{opens_by, no_line, not_opened}
use Rattle.ra_book_text.proofs.answering.take_first.Goals as goal
use Rattle.ra_book_text.proofs.answering.take_first.Goals.{then-is_there+then-not-input, else-is_there, else-is_there-via-then-is_there+else-not-input, else-is_there-via-else-is_there}

pub returns-in-Err-clause-opens : goal.returns-in-Err-clause-opens
returns-in-Err-clause-opens g c = ([], not_opened (g.B.Read.remaining c.args.reader.now) (g.B.Read.remaining c.next_line.new.reader) c.next_line.new.input.line c.in-Err.fault (rw c.in-Err.is at c.next_line.ensures.read), c.next_line.ensures.puts)

pub returns-in-Some-clause-opens : goal.returns-in-Some-clause-opens
returns-in-Some-clause-opens g c =
    elim c.if-is_there.branch [
      | then-is_there+then-not-input w ↦
          let first = c.in-Some.first in
          let h = subst (λ (b : Bool). ReadsLine (g.B.Read.remaining c.args.reader.now) (g.B.Read.remaining c.next_line.new.reader) c.next_line.new.input.line (Ok b)) w.if-is_there.true (rw c.in-Ok.is at c.next_line.ensures.read) in
          let whole : c.next_line.new.input.line.bytes.items ≡ h.0 = rw w.if-not-input.true at h.3 in
          let says = subst (λ (t : List ℕ). IsFirst t first.version first.member.node first.member.nodes first.start) (w.as_slice.ensures.value ∙ whole)
          (rw (sym w.first-is ∙ c.in-Some.is) at w.parse-first.ensures) in
          (codes "ok\n", opens_by _ _ h.0 (codes "ok\n") (Ok first) h.1 h.2 (says, refl), both _ _ _ _ _ _ _ _ c.next_line.ensures.puts c.put.ensures)
      | else-is_there w ↦ absurd (none-some _ (sym w.first-is ∙ c.in-Some.is))
    ]

pub returns-in-None-clause-opens : goal.returns-in-None-clause-opens
returns-in-None-clause-opens g c =
    let same : c.as_bytes.result.now ≡ refused_line refusal.Line = search rules in
    let put = renamed _ _ _ _ _ _ same (both _ _ _ _ _ _ _ _ c.next_line.ensures.puts c.put-in-None.ensures) in
    let line = refused_line refusal.Line in
    elim c.if-is_there.branch [
      | then-is_there+then-not-input w ↦
          let h = subst (λ (b : Bool). ReadsLine (g.B.Read.remaining c.args.reader.now) (g.B.Read.remaining c.next_line.new.reader) c.next_line.new.input.line (Ok b)) w.if-is_there.true (rw c.in-Ok.is at c.next_line.ensures.read) in
          let whole : c.next_line.new.input.line.bytes.items ≡ h.0 = rw w.if-not-input.true at h.3 in
          let none = rw (sym w.first-is ∙ c.in-None.is) at w.parse-first.ensures in
          let no_first : IsNoFirst h.0 =
          λ version node nodes start is. none version node nodes start (subst (λ (t : List ℕ). IsFirst t version node nodes start) (sym (w.as_slice.ensures.value ∙ whole)) is) in
          (line, opens_by _ _ h.0 line (Err Line) h.1 h.2 (no_first, refl), put)
      | else-is_there w ↦ elim w.else-is_there.branch [
        | else-is_there-via-then-is_there+else-not-input v ↦
            let h = subst (λ (b : Bool). ReadsLine (g.B.Read.remaining c.args.reader.now) (g.B.Read.remaining c.next_line.new.reader) c.next_line.new.input.line (Ok b)) v.if-is_there.true (rw c.in-Ok.is at c.next_line.ensures.read) in
            let long : 256 < length h.0 = rw v.if-not-input.false at h.3 in
            let no_first : IsNoFirst h.0 = λ version node nodes start is. omega (arith, long, is.short) in
            (line, opens_by _ _ h.0 line (Err Line) h.1 h.2 (no_first, refl), put)
        | else-is_there-via-else-is_there v ↦
            let h = subst (λ (b : Bool). ReadsLine (g.B.Read.remaining c.args.reader.now) (g.B.Read.remaining c.next_line.new.reader) c.next_line.new.input.line (Ok b)) v.if-is_there.false (rw c.in-Ok.is at c.next_line.ensures.read) in (line, no_line _ _ h.0 h.1, put)
      ]
    ]
