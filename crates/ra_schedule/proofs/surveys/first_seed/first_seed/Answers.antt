use Rattle.std.proofs.Common.{◌≡◌, ℕ, ◌+◌, ◌-◌, refl, sym, subst, ◌∙◌, arith}
use Rattle.std.proofs.lemmas.Result.{err_from_is_err_and}
use Rattle.ra_schedule.specs.Finding.{NoneBefore}
use Rattle.ra_schedule.proofs.FirstSeed.{one_more, none_before, none_past, tried_to, from_first}
use Rattle.ra_schedule.proofs.ToldSeeds.{told_none, told_more, tells_seeds, tells_some}
use Rattle.ra_schedule.proofs.surveys.first_seed.first_seed.Goals as goal

pub loop-seed-init : goal.loop-seed-init
loop-seed-init g c =
    (none_before c.args.script.now c.args.chances.now.faults c.args.limit c.args.ending c.args.chances.now.seeds.first, told_none c.args.script.now c.args.chances.now.faults c.args.limit c.args.chances.now.seeds.first _, λ past. refl)

pub loop-seed-preserved : goal.loop-seed-preserved
loop-seed-preserved g c =
    let (before, told, at) = c.loop-seed.invariant in (
      one_more c.args.script.now c.args.chances.now.faults c.args.limit c.args.ending c.args.chances.now.seeds.first c.loop-seed.seed before
          (c.in_ok-outcome.outcome, c.in_ok-outcome.ensures, sym c.is_end.ensures ∙ c.if-is_end.false),
      told_more c.args.script.now c.args.chances.now.faults c.args.limit c.args.chances.now.seeds.first c.loop-seed.seed _ _ _ c.in_ok-outcome.outcome told
          c.in_ok-outcome.ensures c.ended.ensures,
      λ past. absurd (omega (arith, past, c.if-seed-last.true)),
    )

pub returns-in_err-outcome-clause-ok : goal.returns-in_err-outcome-clause-ok
returns-in_err-outcome-clause-ok g c =
    let p = err_from_is_err_and c.from_residual.result c.from_residual.ensures.1 in rw p.1 tt

pub returns-in_err-outcome-clause-told : goal.returns-in_err-outcome-clause-told
returns-in_err-outcome-clause-told g c =
    let p = err_from_is_err_and c.from_residual.result c.from_residual.ensures.1 in rw p.1 tt

pub returns-in_err-outcome-clause-err : goal.returns-in_err-outcome-clause-err
returns-in_err-outcome-clause-err g c =
    let p = err_from_is_err_and c.from_residual.result c.from_residual.ensures.1 in
    let (before, told, at) = c.loop-seed.invariant in
    rw p.1 (tells_some c.args.script.now c.args.chances.now.faults c.args.limit c.args.chances.now.seeds.first c.loop-seed.seed c.args.chances.now.seeds.last _ _ told (omega (arith, c.loop-seed-test.true)))

pub returns-then-is_end-clause-ok : goal.returns-then-is_end-clause-ok
returns-then-is_end-clause-ok g c =
    let (before, told, at) = c.loop-seed.invariant in (
      from_first c.args.chances.now.seeds.first c.loop-seed.seed _ told.seeds,
      omega (arith, c.loop-seed-test.true),
      (c.in_ok-outcome.outcome, c.in_ok-outcome.ensures, sym c.is_end.ensures ∙ c.if-is_end.true),
      before,
    )

pub returns-then-is_end-clause-told : goal.returns-then-is_end-clause-told
returns-then-is_end-clause-told g c =
    let (before, told, at) = c.loop-seed.invariant in
    tells_seeds c.args.script.now c.args.chances.now.faults c.args.limit c.args.chances.now.seeds.first (c.loop-seed.seed + 1) _ _ _
    (told_more c.args.script.now c.args.chances.now.faults c.args.limit c.args.chances.now.seeds.first c.loop-seed.seed _ _ _ c.in_ok-outcome.outcome told
    c.in_ok-outcome.ensures c.ended.ensures) (tried_to c.args.chances.now.seeds.first c.loop-seed.seed _ told.seeds)

pub returns-clause-ok : goal.returns-clause-ok
returns-clause-ok g c =
    let first = c.loop-seed.invariant.2 (omega (arith, c.loop-seed-test.false)) in
    none_past c.args.script.now c.args.chances.now.faults c.args.limit c.args.ending c.args.chances.now.seeds.first c.args.chances.now.seeds.last (omega (arith, c.loop-seed-test.false, first))

pub returns-clause-told : goal.returns-clause-told
returns-clause-told g c =
    let (before, told, at) = c.loop-seed.invariant in
    let first = at (omega (arith, c.loop-seed-test.false)) in
    tells_seeds c.args.script.now c.args.chances.now.faults c.args.limit c.args.chances.now.seeds.first c.loop-seed.seed _ _ _ told (omega (arith, c.loop-seed-test.false, first))

pub returns-else-is_end-clause-ok : goal.returns-else-is_end-clause-ok
returns-else-is_end-clause-ok g c =
    let (before, told, at) = c.loop-seed.invariant in
    let is : c.loop-seed.seed ≡ c.args.chances.now.seeds.last = omega (arith, c.loop-seed-test.true, c.if-seed-last.false) in
    subst (λ (seed : ℕ). NoneBefore c.args.script.now c.args.chances.now.faults c.args.limit c.args.ending c.args.chances.now.seeds.first (seed + 1)) is
    (one_more c.args.script.now c.args.chances.now.faults c.args.limit c.args.ending c.args.chances.now.seeds.first c.loop-seed.seed before
    (c.in_ok-outcome.outcome, c.in_ok-outcome.ensures, sym c.is_end.ensures ∙ c.if-is_end.false))

pub returns-else-is_end-clause-told : goal.returns-else-is_end-clause-told
returns-else-is_end-clause-told g c =
    let (before, told, at) = c.loop-seed.invariant in
    let is : c.loop-seed.seed ≡ c.args.chances.now.seeds.last = omega (arith, c.loop-seed-test.true, c.if-seed-last.false) in
    let all : c.args.chances.now.seeds.first + (c.args.chances.now.seeds.last + 1 - c.args.chances.now.seeds.first) ≡ c.loop-seed.seed + 1 = omega (arith, is, told.seeds) in
    tells_seeds c.args.script.now c.args.chances.now.faults c.args.limit c.args.chances.now.seeds.first (c.loop-seed.seed + 1) _ _ _
    (told_more c.args.script.now c.args.chances.now.faults c.args.limit c.args.chances.now.seeds.first c.loop-seed.seed _ _ _ c.in_ok-outcome.outcome told
    c.in_ok-outcome.ensures c.ended.ensures) all
