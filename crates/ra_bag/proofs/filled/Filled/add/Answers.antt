use Rattle.std.proofs.Common.{rules, ◌≡◌, ◌/◌, ◌%◌, cond, arith, refl}
use Rattle.std.specs.Option.{is_some}
use Rattle.ra_bag.proofs.Counts.{count_added}
use Rattle.ra_bag.proofs.filled.Filled.add.Goals as goal

pub returns : goal.returns
returns c = λ slots len shown.
    let gone = c.args.self.now.gone in
    let kept = c.args.kept.now in
    let at = c.in-Some.at in
    let is = c.in-Some.ensures.1 in
    let one : c.from-count.result ≡ cond (is_some kept) 1 0 = search rules in
    record {
      small =
          count_added 16 c.args.self.now.small.items gone slots shown.small c.add_at.new.counts.items kept (at / 16) (at % 16) c.from-count.result
          (omega (arith, is, len)) (omega arith) one c.in_ok-add_at.ensures.there c.in_ok-add_at.ensures.after;
      middle =
          count_added 256 c.args.self.now.middle.items gone slots shown.middle c.add_at-2.new.counts.items kept (at / 256) (at % 256) c.from-count.result
          (omega (arith, is, len)) (omega arith) one c.in_ok-add_at-2.ensures.there c.in_ok-add_at-2.ensures.after;
      large =
          count_added 4096 c.args.self.now.large.items gone slots shown.large c.add_at-3.new.counts.items kept (at / 4096) (at % 4096) c.from-count.result
          (omega (arith, is, len)) (omega arith) one c.in_ok-add_at-3.ensures.there c.in_ok-add_at-3.ensures.after;
      noted = refl;
    }
