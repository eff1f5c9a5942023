use Rattle.ra_site.proofs.LetIn.{entered_if_told, let_in_is_there}
use Rattle.ra_site.proofs.Telling.{of_some}
use Rattle.ra_site.proofs.site.desk.made_by.Goals as goal

pub invariant_of-result : goal.invariant_of-result
invariant_of-result c = record {
  fit = c.requires.fit;
  given = λ x is. c.requires.given x.1 (let_in_is_there _ _ x.1.entry c.as_slice.ensures (of_some _ _ x is c.take_let_in-told.ensures.some).0);
}

pub returns-clause-entered : goal.returns-clause-entered
returns-clause-entered c = entered_if_told _ c.take_let_in-told.result _ _ c.as_slice.ensures c.take_let_in-told.ensures.some
