use Rattle.std.proofs.Common.{◌/◌, ◌%◌, ◌∙◌, arith, refl}
use Rattle.ra_bag.proofs.Counts.{count_taken}
use Rattle.ra_bag.proofs.filled.Filled.unset.Goals as goal

pub returns : goal.returns
returns c = λ slots lt some shown kept.
    let gone = c.args.self.now.gone in
    let at = c.in-Some.at in
    let is = c.in-Some.ensures.1 in
    let old = shown (λ e. kept (c.take_one.ensures.len ∙ e)) in
    record {
      small =
          count_taken 16 c.args.self.now.small.items gone slots old.small c.take_one.new.counts.items c.args.slot at (at / 16) (at % 16)
          (omega (arith, is)) (omega arith) (omega arith) lt some c.take_one.ensures.less;
      middle =
          count_taken 256 c.args.self.now.middle.items gone slots old.middle c.take_one-2.new.counts.items c.args.slot at (at / 256) (at % 256)
          (omega (arith, is)) (omega arith) (omega arith) lt some c.take_one-2.ensures.less;
      large =
          count_taken 4096 c.args.self.now.large.items gone slots old.large c.take_one-3.new.counts.items c.args.slot at (at / 4096) (at % 4096)
          (omega (arith, is)) (omega arith) (omega arith) lt some c.take_one-3.ensures.less;
      noted = refl;
    }
