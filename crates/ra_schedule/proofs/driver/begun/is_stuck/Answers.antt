use Rattle.std.proofs.Common.{ℕ, arith, refl, sym, ap, ◌∙◌, below_more, slice_index_or}
use Rattle.std.specs.Prelude.{IsTrue}
use Rattle.std.proofs.lemmas.Bool.{false≢true}
use Rattle.ra_schedule.specs.declared.driver.client_progress.Progress.{Progress}
use Rattle.ra_schedule.proofs.OldestChoices.{one_there, someone, not_quiet}
use Rattle.ra_schedule.proofs.ScheduleLaws.{schedules_rest_on_runs}
use Rattle.ra_schedule.proofs.Turns.{opening_progress}
use Rattle.ra_schedule.proofs.driver.begun.is_stuck.Goals as goal

pub oldest-requires : goal.oldest-requires
oldest-requires c = c.requires

pub returns-in-Some : goal.returns-in-Some
returns-in-Some c = (
  λ yes. absurd (false≢true yes),
  λ stuck. absurd (not_quiet schedules_rest_on_runs.one_list c.args.script.now c.args.world.now.moves _ c.in-Some.ensures.some stuck.quiet),
)

pub loop-progress-init : goal.loop-progress-init
loop-progress-init c k d less waits = absurd (omega (arith, less))

pub loop-progress-preserved : goal.loop-progress-preserved
loop-progress-preserved c =
    let clients = c.args.clients.now in
    let i = c.loop-progress.progress-index in
    let none : (d : Progress) → IsTrue (slice_index_or clients i d).waiting → ⊥ =
    λ d waits. false≢true (sym c.if-progress.false ∙ ap (λ (p : Progress). p.waiting) (one_there clients i _ d c.loop-progress-test.true) ∙ waits) in
    λ k d less waits. below_more (λ (n : ℕ). (e : Progress) → IsTrue (slice_index_or clients n e).waiting → ⊥) i
    (λ n under e h. c.loop-progress.invariant n e under h) none k less d waits

pub returns-then-progress : goal.returns-then-progress
returns-then-progress c =
    let waits = someone c.args.script.now c.args.world.now c.args.clients.now c.requires in (
      λ yes. record {
        quiet = c.in_default.ensures.none refl;
        someone_waits = waits.0 (
          c.loop-progress.progress-index,
          c.loop-progress-test.true,
          λ d. ap (λ (p : Progress). p.waiting) (one_there c.args.clients.now c.loop-progress.progress-index d _ c.loop-progress-test.true) ∙ c.if-progress.true,
        );
      },
      λ stuck. refl,
    )

pub returns : goal.returns
returns c =
    let waits = someone c.args.script.now c.args.world.now c.args.clients.now c.requires in (
      λ yes. absurd (false≢true yes),
      λ stuck.
          let (place, within, waiting) = waits.1 stuck.someone_waits in
          absurd (c.loop-progress.invariant place opening_progress (let past = c.loop-progress-test.false in omega (arith, within, past)) (waiting opening_progress)),
    )
