use Rattle.std.proofs.Common.{◌≡◌, ℕ, sym, ◌∙◌, inl, inr}
use Rattle.ra_world.specs.declared.error.RunError.TheVariants.{BadCount, Refused, Memory}
use Rattle.ra_world.specs.declared.error.StepError.{StepError}
use Rattle.ra_book.proofs.SettledReport.{has_run, never_refused}
use Rattle.ra_book.proofs.settle_books.run_steps.Goals as goal

memory_alone : Memory ≡ BadCount → ⊥
memory_alone is = cc

never_another : (place : ℕ) (cause : StepError) → Memory ≡ Refused place cause → ⊥
never_another place cause is = cc

pub returns-in-Ok : goal.returns-in-Ok
returns-in-Ok c =
    has_run c.args.books.now c.index-books-0.result c.nodes.result c.start.result _ c.requires.cluster c.index-books-0.is c.nodes.ensures.value c.start.ensures.value c.in-Ok.ensures.ok
    c.in-Ok.ensures.main_theorem

-- the steps are a run, so they are refused only because memory ran out
pub unreachable-requires : goal.unreachable-requires
unreachable-requires c =
    let allowed = never_refused c.args.books.now c.index-books-0.result c.nodes.result c.start.result c.args.steps.items c.requires.cluster c.nodes.ensures.history c.index-books-0.is c.nodes.ensures.value
    c.start.ensures.value c.requires.run
    in
    let is = c.in-Err.ensures.allowed allowed.0 allowed.1 in
    elim c.in-BadCount.is [
      | inl count ↦ memory_alone (sym is ∙ count)
      | inr other ↦ never_another _ _ (sym is ∙ other.2)
    ]
