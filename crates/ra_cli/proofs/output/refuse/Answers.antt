use Rattle.std.proofs.Common.{◌≡◌, ℕ, refl, subst, sym, ◌∙◌}
use Rattle.std.proofs.lemmas.Bool.{false≢true}
use Rattle.ra_cli.specs.Refusals.{IsOfWriter, refused_line, word_of}
use Rattle.ra_cli.specs.Statuses.{Writes}
use Rattle.ra_cli.proofs.Statuses.{of_writer, of_reader, of_others}
use Rattle.ra_cli.proofs.output.refuse.Goals as goal
use Rattle.ra_cli.proofs.output.refuse.Goals.{then-is_of_the_reader, else-is_of_the_reader}

pub returns-then-is_of_the_writer : goal.returns-then-is_of_the_writer
returns-then-is_of_the_writer g c =
    of_writer c.args.refusal _ _ _ _ refl (c.is_of_the_writer.ensures.0 c.if-is_of_the_writer.true) refl

pub returns : goal.returns
returns g c =
    let refusal = c.args.refusal in
    let before = g.W.Write.contents c.args.writer.now in
    let after = g.W.Write.contents c.written-status.new.writer in
    let line = c.as_bytes.result.now in
    let said : line ≡ refused_line (word_of refusal) = c.as_bytes.ensures.value ∙ c.line_of.ensures in
    let status = c.written-status.result in
    let other : IsOfWriter refusal → ⊥ = λ of. false≢true (sym c.if-is_of_the_writer.false ∙ c.is_of_the_writer.ensures.1 of) in
    elim c.if-is_of_the_reader.branch [
      | then-is_of_the_reader w ↦ of_reader refusal line before after _ status status refl said (c.is_of_the_reader.ensures.0 w.if-is_of_the_reader.true) other
          (subst (λ (wanted : ℕ). Writes line wanted before after status) w.status-is c.written-status.ensures)
      | else-is_of_the_reader w ↦ of_others refusal line before after _ status status refl said
          (λ of. false≢true (sym w.if-is_of_the_reader.false ∙ c.is_of_the_reader.ensures.1 of)) other
          (subst (λ (wanted : ℕ). Writes line wanted before after status) w.status-is c.written-status.ensures)
    ]
