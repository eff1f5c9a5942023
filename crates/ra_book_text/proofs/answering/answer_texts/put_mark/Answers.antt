use Rattle.std.proofs.Common.{arith, subst, ◌≡◌, ◌++◌, ℕ, codes, decimal, ap, ◌∙◌}
use Rattle.ra_stamp.specs.Name.{IsName}
use Rattle.ra_stamp.specs.NodeId.{IsNodeNumber}
use Rattle.ra_book_text.specs.Answers.{IsShown}
use Rattle.ra_text.specs.Lines.{entry_fields, field, mark_line}
use Rattle.ra_book_text.proofs.Put.{both, renamed}
use Rattle.ra_book_text.proofs.Sends.{mark_text}
use Rattle.ra_book_text.proofs.answering.answer_texts.put_mark.Goals as goal

pub returns-clause-puts : goal.returns-clause-puts
returns-clause-puts g c =
    let entry = c.entry-entry.result.now in
    let word = c.as_bytes.result.now in
    let node = renamed _ _ _ _ _ _ (ap (λ (n : ℕ). field (decimal n)) c.get.ensures.value) c.put_number.ensures in
    let name = renamed _ _ _ _ _ _ (ap field c.bytes.ensures.value) c.put_field.ensures in
    let mode = renamed _ _ _ _ _ _ (ap field (c.as_bytes-2.ensures.value ∙ c.word-2.ensures)) c.put_field-2.ensures in
    let names = both _ _ _ _ _ _ _ _ (both _ _ _ _ _ _ _ _ node c.put_number-2.ensures) name in
    let fields = both _ _ _ _ _ _ _ _ (both _ _ _ _ _ _ _ _ names mode) c.put_number-3.ensures in
    let same : word ++ entry_fields entry ++ codes "\n" ≡ mark_line c.args.mark.now =
    mark_text c.args.mark.now word entry c.entry-entry.ensures (c.as_bytes.ensures.value ∙ c.word.ensures) in
    renamed _ _ _ _ _ _ same (both _ _ _ _ _ _ _ _ (both _ _ _ _ _ _ _ _ c.put.ensures fields) c.put-2.ensures)

pub returns-clause-shown : goal.returns-clause-shown
returns-clause-shown g c =
    subst IsShown c.entry-entry.ensures (record {
      node = subst IsNodeNumber c.get.ensures.value c.get.ensures.valid;
      client = omega arith;
      name = subst IsName c.bytes.ensures.value c.bytes.ensures.valid;
      number = omega arith;
    })
