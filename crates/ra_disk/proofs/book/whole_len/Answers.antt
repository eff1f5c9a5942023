use Rattle.std.proofs.Common.{◌≡◌, ◌-◌, length, take, sym, ◌∙◌, ap, subst, arith}
use Rattle.std.proofs.lemmas.List.{length-take}
use Rattle.std.specs.List.{concat}
use Rattle.ra_disk.specs.Lines.{lines, whole, IsWhole}
use Rattle.ra_disk.proofs.LineLemmas.{no_line, ends_whole, is_feed, is_none, front_by_byte}
use Rattle.ra_disk.proofs.book.whole_len.Goals as goal

pub loop-len-preserved : goal.loop-len-preserved
loop-len-preserved c =
    let text = c.args.text.now in
    let at = c.loop-len.len in
    let cut = front_by_byte text at c.loop-len-test.true c.loop-len.invariant.size in
    record {
      size = omega (arith, c.loop-len.invariant.size);
      same =
          sym (no_line (take (at - 1) text) _ (is_none _ c.if-text-len-ne-LINE_FEED.true))
          ∙ sym (ap lines cut)
          ∙ c.loop-len.invariant.same;
    }

pub returns-else-text-len-ne-LINE_FEED : goal.returns-else-text-len-ne-LINE_FEED
returns-else-text-len-ne-LINE_FEED c =
    let text = c.args.text.now in
    let at = c.loop-len.len in
    let cut = front_by_byte text at c.loop-len-test.true c.loop-len.invariant.size in
    let is = subst IsWhole (sym cut) (ends_whole (take (at - 1) text) _ (is_feed _ c.if-text-len-ne-LINE_FEED.false)) in
    let same : whole text ≡ take at text = sym (ap concat c.loop-len.invariant.same) ∙ is in
    omega (arith, ap length same, length-take at text, c.loop-len.invariant.size)
