use Rattle.std.proofs.Common.{◌<◌, Some, refl, sym, ◌∙◌, subst}
use Rattle.std.proofs.lemmas.Bool.{false≢true}
use Rattle.std.proofs.lemmas.List.{get_or_default}
use Rattle.ra_bag.proofs.Emptied.{out_there}
use Rattle.ra_bag.proofs.Calls.{is_in}
use Rattle.ra_bag.proofs.slots.has.Goals as goal

pub returns-in-Some-clause-value : goal.returns-in-Some-clause-value
returns-in-Some-clause-value c =
    let slots = c.args.slots.now in
    let m = Some c.args.message.now in
    let kept = c.in-Some.kept.now in
    let lt = subst (λ n. c.args.slot < n) slots.ok.0 (c.in-Some.ensures.variant.0 refl) in (
      λ same. (lt, is_in slots.items c.args.slot kept m c.in-Some.ensures.lookup (c.is_of.ensures.0 same)),
      λ there. c.is_of.ensures.1 (c.in-Some.ensures.lookup ∙ (sym (get_or_default slots.items c.args.slot m kept lt) ∙ there.1)),
    )

pub returns-in-Some-clause-there : goal.returns-in-Some-clause-there
returns-in-Some-clause-there c is =
    let slots = c.args.slots.now in
    let lt = subst (λ n. c.args.slot < n) slots.ok.0 (c.in-Some.ensures.variant.0 refl) in
    out_there slots.items c.args.message.now c.args.slot lt
    (is_in slots.items c.args.slot c.in-Some.kept.now (Some c.args.message.now) c.in-Some.ensures.lookup (c.is_of.ensures.0 is))

pub returns-in-None-clause-value : goal.returns-in-None-clause-value
returns-in-None-clause-value c = (
  λ none. absurd (false≢true none),
  λ there. absurd (false≢true (c.in-None.ensures.variant.1 (subst (λ n. c.args.slot < n) (sym c.args.slots.now.ok.0) there.0))),
)

pub returns-in-None-clause-there : goal.returns-in-None-clause-there
returns-in-None-clause-there c none = absurd (false≢true none)
