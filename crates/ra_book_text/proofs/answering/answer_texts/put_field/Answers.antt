use Rattle.ra_book_text.proofs.Put.{both}
use Rattle.ra_book_text.proofs.answering.answer_texts.put_field.Goals as goal

pub returns : goal.returns
returns g c = both _ _ _ _ _ _ _ _ c.put.ensures c.put-2.ensures
