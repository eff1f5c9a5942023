use Rattle.std.proofs.Common.{◌≡◌, ◌+◌, ◌++◌, ◌∷◌, if◌then◌else◌, Bool, true, false, [], List, drop, refl, sym, ap, ◌∙◌, arith}
use Rattle.std.proofs.lemmas.Bool.{false≢true, true≢false}
use Rattle.std.proofs.lemmas.List.{append-nil, drop_all, drop_more, get_or_default}
use Rattle.ra_world.specs.declared.step.Step.{Step}
use Rattle.ra_world.specs.declared.step.Step.TheVariants.{Leave}
use Rattle.ra_schedule.specs.Shrinking.{are_of_one_client, others, cut}
use Rattle.ra_schedule.proofs.ShrunkRuns.{step_there, taken_more, cut_begins, others_more}
use Rattle.ra_schedule.proofs.driver.shrinking.cut_of.Goals as goal
use Rattle.ra_schedule.proofs.driver.shrinking.cut_of.Goals.{then-not-are_of_one_client+in_ok-push-2, else-not-are_of_one_client}

pub loop-earlier-preserved : goal.loop-earlier-preserved
loop-earlier-preserved c =
    taken_more c.args.steps.now [] c.loop-earlier.left.items c.push.new.self.items c.loop-earlier.earlier c.index-steps-earlier.result
    (let before = c.loop-earlier-test.true in let within = c.requires in omega (arith, before, within)) c.index-steps-earlier.is c.loop-earlier.invariant
    c.in_ok-push.ensures.ok

pub loop-later-init : goal.loop-later-init
loop-later-init c =
    cut_begins c.args.steps.now c.loop-earlier.left.items c.args.place c.loop-earlier.earlier c.requires c.loop-earlier.auto.earlier-end c.loop-earlier-test.false
    c.loop-earlier.invariant

if_it_is : {X : Type 0} (test : Bool) (x y : X) → test ≡ true → x ≡ (if test then x else y)
if_it_is true x y is = refl
if_it_is false x y is = absurd (false≢true is)

if_it_is_not : {X : Type 0} (test : Bool) (x y : X) → test ≡ false → y ≡ (if test then x else y)
if_it_is_not true x y is = absurd (true≢false is)
if_it_is_not false x y is = refl

pub loop-later-preserved : goal.loop-later-preserved
loop-later-preserved c =
    let steps = c.args.steps.now in
    let later = c.loop-later.later in
    let gone = step_there steps c.args.place in
    let step = step_there steps later in
    let old = c.loop-later.left.items in
    let new = c.if-not-are_of_one_client.left.items in
    let less = c.loop-later-test.true in
    let gone-is : gone ≡ c.index-steps-place.result = get_or_default steps c.args.place _ _ c.requires ∙ sym c.index-steps-place.is in
    let step-is : step ≡ c.index-steps-later.result = get_or_default steps later _ _ less ∙ sym c.index-steps-later.is in
    let test : c.are_of_one_client.result ≡ are_of_one_client gone step =
    c.are_of_one_client.ensures ∙ ap (λ (s : Step). are_of_one_client s c.index-steps-later.result) (sym gone-is) ∙ ap (are_of_one_client gone) (sym step-is) in
    let kept : new ≡ (if are_of_one_client gone step then old else old ++ step ∷ []) =
    elim c.if-not-are_of_one_client.branch [
      | then-not-are_of_one_client+in_ok-push-2 w ↦
          let item = w.index-steps-later-then-not-are_of_one_client in
          ap (λ l. l.items) w.left-is ∙ w.in_ok-push-2.ensures.ok ∙ ap (λ (s : Step). old ++ s ∷ []) (item.is ∙ get_or_default steps later _ _ less)
          ∙ if_it_is_not (are_of_one_client gone step) old (old ++ step ∷ []) (sym test ∙ w.if-not-are_of_one_client.true)
      | else-not-are_of_one_client w ↦
          ap (λ l. l.items) w.left-is ∙ if_it_is (are_of_one_client gone step) old (old ++ step ∷ []) (sym test ∙ w.if-not-are_of_one_client.false)
    ] in
    others_more gone step old new old (drop later steps) (drop (later + 1) steps) (cut steps c.args.place) (drop_more steps later (Leave 0 0 []) less)
    c.loop-later.invariant kept

pub returns : goal.returns
returns c =
    let steps = c.args.steps.now in
    let left = c.loop-later.left.items in
    let rest = λ (xs : List Step). left ++ others (step_there steps c.args.place) xs in
    sym (append-nil left) ∙ ap rest (sym (drop_all c.loop-later.later steps c.loop-later-test.false)) ∙ c.loop-later.invariant
