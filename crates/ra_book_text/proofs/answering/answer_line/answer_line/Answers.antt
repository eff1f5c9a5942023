use Rattle.std.proofs.Common.{◌≡◌, refl, inl, inr, rules}
use Rattle.ra_book_text.specs.Answers.{refused_line}
use Rattle.ra_book_text.proofs.Put.{renamed}
use Rattle.ra_book_text.proofs.answering.answer_line.answer_line.Goals as goal

pub returns-in-Err : goal.returns-in-Err
returns-in-Err g c read kept =
    let same : c.as_bytes.result.now ≡ refused_line c.in-Err.why = search rules in (
      refused_line c.in-Err.why,
      inr (record { why = c.in-Err.why; stays = rw c.in-Err.is at (c.react.ensures.reacts read kept); text_is = refl }),
      renamed _ _ _ _ _ _ same c.put.ensures,
    )

pub returns-in-Ok : goal.returns-in-Ok
returns-in-Ok g c read kept =
    let posted = c.put_outcome.ensures in (
      posted.0,
      inl (record {
        sends = c.in-Ok.outcome.sends.items;
        marks = c.in-Ok.outcome.marks.items;
        reacts = c.in-Ok.ensures.reacts read kept;
        posted = rw c.clock.ensures at posted.1;
      }),
      posted.2,
    )
