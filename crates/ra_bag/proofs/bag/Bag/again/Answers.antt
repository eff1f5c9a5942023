use Rattle.std.proofs.Common.{◌≤◌, ◌∷◌, [], ◌++◌, refl, sym, ap, ◌∙◌, subst, true≢false}
use Rattle.std.proofs.lemmas.Bool.{false≢true}
use Rattle.std.proofs.lemmas.Result.{IfOk-from_err, MatchResult-from_err}
use Rattle.ra_stamp.specs.declared.message.Message.{Message}
use Rattle.ra_stamp.specs.Sequence.{Listed}
use Rattle.ra_bag.proofs.bag.Bag.again.Goals as goal

-- ---- No such message is under way

pub returns-then-is_none-clause-told : goal.returns-then-is_none-clause-told
returns-then-is_none-clause-told c = (λ again. absurd (false≢true again), λ there. absurd (false≢true (sym c.if-is_none.ensures ∙ c.find.ensures.found.1 there)))

pub returns-then-is_none-clause-copied : goal.returns-then-is_none-clause-copied
returns-then-is_none-clause-copied c = λ again. absurd (false≢true again)

pub returns-then-is_none-clause-left : goal.returns-then-is_none-clause-left
returns-then-is_none-clause-left c = λ _. c.find.ensures.same

pub returns-then-is_none-clause-succeeds : goal.returns-then-is_none-clause-succeeds
returns-then-is_none-clause-succeeds c = λ _. refl

pub returns-then-is_none-clause-spare : goal.returns-then-is_none-clause-spare
returns-then-is_none-clause-spare c = λ again. absurd (false≢true again)

-- ---- There is no memory for it

pub returns-in_err-put-clause-told : goal.returns-in_err-put-clause-told
returns-in_err-put-clause-told c = IfOk-from_err c.from_residual.result _ c.from_residual.ensures.0

pub returns-in_err-put-clause-copied : goal.returns-in_err-put-clause-copied
returns-in_err-put-clause-copied c = IfOk-from_err c.from_residual.result _ c.from_residual.ensures.0

pub returns-in_err-put-clause-left : goal.returns-in_err-put-clause-left
returns-in_err-put-clause-left c = IfOk-from_err c.from_residual.result _ c.from_residual.ensures.0

pub returns-in_err-put-clause-err : goal.returns-in_err-put-clause-err
returns-in_err-put-clause-err c =
    MatchResult-from_err c.from_residual.result _ _ c.from_residual.ensures.0 (λ _. c.in_err-put.ensures.err ∙ c.find.ensures.same)

pub returns-in_err-put-clause-there : goal.returns-in_err-put-clause-there
returns-in_err-put-clause-there c =
    MatchResult-from_err c.from_residual.result _ _ c.from_residual.ensures.0 (λ _. c.find.ensures.found.0 c.if-is_none.ensures)

pub returns-in_err-put-clause-succeeds : goal.returns-in_err-put-clause-succeeds
returns-in_err-put-clause-succeeds c = λ room.
    absurd (false≢true (c.in_err-put.ensures.succeeds (subst (λ (b : Listed Message). 1 ≤ b.spare) (sym c.find.ensures.same) room)))

pub returns-in_err-put-clause-spare : goal.returns-in_err-put-clause-spare
returns-in_err-put-clause-spare c = IfOk-from_err c.from_residual.result _ c.from_residual.ensures.0

-- ---- It is put under way again

pub returns-clause-told : goal.returns-clause-told
returns-clause-told c = (λ _. c.find.ensures.found.0 c.if-is_none.ensures, λ _. refl)

pub returns-clause-copied : goal.returns-clause-copied
returns-clause-copied c = λ _. c.in_ok-put.ensures.ok ∙ ap (λ (b : Listed Message). b.items ++ c.args.message.now ∷ []) c.find.ensures.same

pub returns-clause-left : goal.returns-clause-left
returns-clause-left c = λ not. absurd (true≢false not)

pub returns-clause-succeeds : goal.returns-clause-succeeds
returns-clause-succeeds c = λ _. refl

pub returns-clause-spare : goal.returns-clause-spare
returns-clause-spare c = λ _ room.
    c.in_ok-put.ensures.spare (subst (λ (b : Listed Message). 1 ≤ b.spare) (sym c.find.ensures.same) room)
    ∙ ap (λ (b : Listed Message). b.spare) c.find.ensures.same
