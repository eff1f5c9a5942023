use Rattle.std.proofs.Common.{◌≡◌, ◌∙◌, ℕ, ap, arith}
use Rattle.std.specs.Prelude.{replicate}
use Rattle.ra_host.proofs.CountedFrames.{none_counted}
use Rattle.ra_host.proofs.taken_counts.TakenCounts.new.Goals as goal

pub returns : goal.returns
returns c book nodes events =
    let all : c.loop.counter ≡ c.args.nodes = omega (arith, c.loop-test.false, c.loop.auto.counter-end) in
    none_counted book c.loop.counts.items c.args.nodes (c.loop.invariant ∙ ap (λ (n : ℕ). replicate n 0) all) nodes events
