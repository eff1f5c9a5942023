use Rattle.std.proofs.Common.{◌≡◌, ℕ, decimal, ap, ◌∙◌, rules}
use Rattle.hex.specs.Hex.{encode_lower}
use Rattle.ra_stamp.specs.Message.{to_of}
use Rattle.ra_text.specs.Lines.{field}
use Rattle.ra_book_text.proofs.Put.{both, renamed}
use Rattle.ra_book_text.proofs.answering.answer_texts.put_frame.Goals as goal

pub returns : goal.returns
returns g c =
    let same : c.as_slice.result.now ≡ c.encoded-bytes.result.items = search rules in
    let to : c.to.result ≡ to_of c.args.frame.now.message = search rules in
    let number = renamed _ _ _ _ _ _ (ap (λ (n : ℕ). field (decimal n)) (c.get.ensures.value ∙ to)) c.put_number.ensures in
    let written : c.encode_to_slice.new.output ≡ encode_lower c.as_slice.result.now = search rules in
    let digits = renamed _ _ _ _ _ _ (ap field (written ∙ ap encode_lower same)) c.put_field.ensures in (
      c.encoded-bytes.result.items,
      c.encoded-bytes.ensures,
      both _ _ _ _ _ _ _ _ (both _ _ _ _ _ _ _ _ (both _ _ _ _ _ _ _ _ c.put.ensures number) digits) c.put-2.ensures,
    )
