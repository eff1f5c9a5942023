use Rattle.std.proofs.Common.{length, sym, ◌∙◌}
use Rattle.ra_book_text.proofs.Pieces.{no_room, too_many}
use Rattle.ra_book_text.proofs.next_line.kept_line.KeptLine.push.Goals as goal

pub returns-then-is_err : goal.returns-then-is_err
returns-then-is_err c text kept =
    let bytes = c.args.self.now.bytes.items in
    let more = c.args.more.now in
    too_many text bytes more (rw c.if-not-self.true at kept)
    (no_room c.try_extend_from_slice.result (length bytes) (length more) (sym c.is_err.ensures.value ∙ c.if-is_err.true) c.try_extend_from_slice.ensures.variant.1)
