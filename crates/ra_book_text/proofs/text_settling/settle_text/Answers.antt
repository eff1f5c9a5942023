use Rattle.ra_book_text.proofs.Exact.{is_settled, is_refused, has_fitting, settles_fitting, finds_wrong}
use Rattle.ra_book_text.proofs.text_settling.settle_text.Goals as goal

pub returns-clause-settled : goal.returns-clause-settled
returns-clause-settled c = is_settled c.args.repeats c.args.text.now c.settle_lines.result c.settle_lines.ensures

pub returns-clause-refused : goal.returns-clause-refused
returns-clause-refused c = is_refused c.args.repeats c.args.text.now c.settle_lines.result c.settle_lines.ensures

pub returns-clause-fit : goal.returns-clause-fit
returns-clause-fit c = has_fitting c.args.repeats c.args.text.now c.settle_lines.result c.settle_lines.ensures

pub returns-clause-settles : goal.returns-clause-settles
returns-clause-settles c =
    settles_fitting c.args.repeats c.args.text.now c.each_text_of_books_has_one_verdict.ensures.fit c.settle_lines.result c.settle_lines.ensures

pub returns-clause-found : goal.returns-clause-found
returns-clause-found c =
    finds_wrong c.args.repeats c.args.text.now c.each_text_of_books_has_one_verdict.ensures.fit c.each_text_of_books_has_one_verdict.ensures.wrong c.settle_lines.result
    c.settle_lines.ensures
