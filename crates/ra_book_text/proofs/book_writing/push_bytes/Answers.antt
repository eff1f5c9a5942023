use Rattle.std.proofs.Common.{◌≡◌, ap, sym, subst, rules}
use Rattle.std.specs.Str.{IsUtf8}
use Rattle.hex.specs.Hex.{encode_lower}
use Rattle.ra_text.specs.Lines.{field}
use Rattle.ra_text.proofs.Drafts.{adds_as}
use Rattle.ra_book_text.proofs.WrittenLines.{digits_are_utf8}
use Rattle.ra_book_text.proofs.book_writing.push_bytes.Goals as goal

pub unwrap-requires-2 : goal.unwrap-requires-2
unwrap-requires-2 c =
    let written : c.encode_to_slice.new.output ≡ encode_lower c.args.bytes.now = search rules in
    let text : IsUtf8 c.encode_to_slice.new.output = subst IsUtf8 (sym written) (digits_are_utf8 c.args.bytes.now) in
    search (rules, text)

pub returns-clause-text : goal.returns-clause-text
returns-clause-text c =
    let digits : c.unwrap-2.result.now ≡ encode_lower c.args.bytes.now = search rules in
    adds_as c.push_field.ensures (ap field digits)
