use Rattle.std.proofs.Common.{rules, ◌≡◌, ◌<◌, ◌≤◌, ◌+◌, ◌*◌, length, get_or, take, sym, ap, ◌∙◌}
use Rattle.std.proofs.lemmas.List.{get_or_default}
use Rattle.ra_bag.specs.Filled.{count_of}
use Rattle.ra_bag.proofs.Counts.{next_block}
use Rattle.ra_bag.proofs.filled.skip_in.Goals as goal

pub returns-then-left-count : goal.returns-then-left-count
returns-then-left-count c = λ size place slots are before. c.loop-block.invariant.left size place slots are before

pub loop-block-preserved : goal.loop-block-preserved
loop-block-preserved c =
    let counts = c.args.counts.now.items in
    let j = c.loop-block.block in
    let lt : j < length counts = search rules in
    let has : get_or counts j c.index-count.result.now ≡ c.index-count.result.now = search rules in
    let le : c.index-count.result.now ≤ c.loop-block.left = search rules in
    record {
      next = search rules;
      left = λ size place slots are before.
          next_block size counts slots j c.loop-block.left c.index-count.result.now place are lt (sym (get_or_default counts j 0 c.index-count.result.now lt ∙ has)) le
          (c.loop-block.invariant.left size place slots are before);
    }

pub returns : goal.returns
returns c = λ size place slots are before.
    ap (λ n. c.loop-block.left + count_of (take (size * n) slots)) c.loop-block.invariant.next ∙ c.loop-block.invariant.left size place slots are before
