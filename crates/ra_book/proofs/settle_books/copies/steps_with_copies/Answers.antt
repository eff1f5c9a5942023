use Rattle.std.proofs.Common.{◌≡◌, List, [], ◌∷◌, ◌++◌, take, reverse, sym, ap, subst, ◌∙◌}
use Rattle.std.proofs.lemmas.List.{take_more, take_all}
use Rattle.ra_world.specs.declared.step.Step.{Step}
use Rattle.ra_book.specs.Repeats.{AreWithCopies}
use Rattle.ra_book.proofs.Running.{not_ok}
use Rattle.ra_book.proofs.settle_books.copies.steps_with_copies.Goals as goal

pub loop-step-init : goal.loop-step-init
loop-step-init c = c.new-steps.ensures

pub loop-step-preserved : goal.loop-step-preserved
loop-step-preserved c =
    let steps = c.deref-step-items.result.now in
    let i = c.loop-step.step-index in
    let step = c.step-item.result in
    c.in_ok-push.ensures.ok ∙ ap (λ (ss : List Step). ss ++ step ∷ []) c.loop-step.invariant ∙ ap (λ (s : Step). take i steps ++ s ∷ []) c.step-item.is
    ∙ sym (take_more steps i step c.loop-step-test.true)

pub returns : goal.returns
returns c =
    let (placed, order, has) = c.in_ok-back.ensures in
    let same : c.loop-step.steps.items ≡ reverse c.in_ok-back.back.items =
    c.loop-step.invariant ∙ take_all c.loop-step.step-index c.deref-step-items.result.now c.loop-step-test.false ∙ c.deref-step-items.ensures.value ∙ c.reverse.ensures.items
    in
    (placed, order, subst (AreWithCopies placed) (sym same) has)

pub returns-in_err-back : goal.returns-in_err-back
returns-in_err-back c = not_ok _ _ c.from_residual.result c.from_residual.ensures.1

pub returns-in_err-push : goal.returns-in_err-push
returns-in_err-push c = not_ok _ _ c.from_residual-in_err-push.result c.from_residual-in_err-push.ensures.1
