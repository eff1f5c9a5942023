use Rattle.std.proofs.Common.{rules, ◌≡◌, ◌≢◌, ◌+◌, ◌-◌, ◌*◌, length, take, sym, ap, ◌∙◌, arith}
use Rattle.ra_bag.specs.Filled.{count_of, after_gone}
use Rattle.ra_bag.proofs.Counts.{none_gone}
use Rattle.ra_bag.proofs.filled.Filled.skip.Goals as goal

pub returns : goal.returns
returns c = λ slots kept.
    let filled = c.args.self.now in
    let all = after_gone filled.gone slots in
    let some : length filled.small.items ≢ 0 = search rules in
    let shown = kept some in
    let start : c.args.place + count_of (take (4096 * 0) all) ≡ c.args.place = omega arith in
    let large = c.skip_in-large.ensures 4096 c.args.place all shown.large start in
    let in_large : 256 * c.in-Some.first ≡ 4096 * c.skip_in-large.result.0 = omega (arith, c.in-Some.ensures.1) in
    let middle =
    c.skip_in-middle.ensures 256 c.args.place all shown.middle (ap (λ n. c.skip_in-large.result.1 + count_of (take n all)) in_large ∙ large) in
    let in_middle : 16 * c.in-Some-checked_mul.first ≡ 256 * c.skip_in-middle.result.0 = omega (arith, c.in-Some-checked_mul.ensures.1) in
    let small =
    c.skip_in-small.ensures 16 c.args.place all shown.small (ap (λ n. c.skip_in-middle.result.1 + count_of (take n all)) in_middle ∙ middle) in
    let in_small : c.in-Some-checked_mul-2.at ≡ 16 * c.skip_in-small.result.0 = omega (arith, c.in-Some-checked_mul-2.ensures.1) in
    let without : c.saturating_sub.result ≡ c.in-Some-checked_mul-2.at - filled.gone = search rules in
    ap (λ n. c.skip_in-small.result.1 + count_of (take n slots)) without
    ∙ ap (λ n. c.skip_in-small.result.1 + n) (sym (none_gone filled.gone c.in-Some-checked_mul-2.at slots))
    ∙ ap (λ n. c.skip_in-small.result.1 + count_of (take n all)) in_small ∙ small

pub returns-then-place-self : goal.returns-then-place-self
returns-then-place-self c = λ slots kept.
    let some : length c.args.self.now.small.items ≢ 0 = search rules in
    let same : c.args.place ≡ c.args.self.now.noted = search rules in
    omega (arith, (kept some).noted, same)
