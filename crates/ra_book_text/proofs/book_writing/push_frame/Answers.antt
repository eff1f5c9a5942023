use Rattle.std.proofs.Common.{◌≤◌, List, ℕ, ap, length, subst}
use Rattle.hex.specs.Hex.{IsBytes, encode_lower}
use Rattle.ra_text.specs.Lines.{field}
use Rattle.ra_text.proofs.Drafts.{adds_as, adds_both}
use Rattle.ra_book_text.proofs.WrittenLines.{frame_line}
use Rattle.ra_book_text.proofs.book_writing.push_frame.Goals as goal

pub returns : goal.returns
returns c =
    let bytes = c.encoded-bytes.result.items in
    let same = c.as_slice.ensures.value in
    let is = subst (λ (bs : List ℕ). IsBytes bs × (length bs ≤ 56)) same c.push_bytes.ensures.bytes in
    let digits = adds_as c.push_bytes.ensures.text (ap (λ (bs : List ℕ). field (encode_lower bs)) same) in
    (_, frame_line c.args.frame.now bytes c.encoded-bytes.ensures is.0 is.1, adds_both (adds_both c.push.ensures digits) c.end_line.ensures)
