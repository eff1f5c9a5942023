use Rattle.std.proofs.Common.{rules, ◌≡◌, ◌+◌, true, false, arith, below_more}
use Rattle.std.proofs.lemmas.Bool.{iff_false}
use Rattle.ra_cluster.specs.Plan.{IsFollowed}
use Rattle.ra_cluster.proofs.Planned.{plan_met, met_followed, met_names}
use Rattle.ra_book.proofs.Truth.{yes, no}
use Rattle.ra_cluster.proofs.script_plan.meets_plan.Goals as goal

pub returns-then-not-name_clients : goal.returns-then-not-name_clients
returns-then-not-name_clients c =
    let failed : c.name_clients.result ≡ false = search rules in
    no (λ met. iff_false c.name_clients.ensures failed (met_names c.args.script.now c.args.marks.now c.clients-count.result c.clients-count.ensures.value met))

pub returns-then-not-follows_ops : goal.returns-then-not-follows_ops
returns-then-not-follows_ops c =
    let failed : c.follows_ops.result ≡ false = search rules in
    no (λ met. iff_false c.follows_ops.ensures failed (met_followed c.args.script.now c.args.marks.now c.loop-place.place (omega (arith, c.clients-count.ensures.value)) met))

pub loop-place-preserved : goal.loop-place-preserved
loop-place-preserved c =
    let follows : c.follows_ops.result ≡ true = search rules in
    below_more
    (λ k. IsFollowed c.args.script.now (k + 1) c.args.marks.now)
    c.loop-place.place
    c.loop-place.invariant
    (c.follows_ops.ensures.0 follows)

pub returns : goal.returns
returns c =
    let named : c.name_clients.result ≡ true = search rules in
    yes (plan_met c.args.script.now c.args.marks.now c.clients-count.result c.clients-count.ensures.value (c.name_clients.ensures.0 named) (λ k less.
    c.loop-place.invariant k (omega arith)))
