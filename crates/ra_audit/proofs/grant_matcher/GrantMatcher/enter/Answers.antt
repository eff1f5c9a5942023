use Rattle.std.proofs.Common.{◌≡◌, ◌<◌, length, get_or, sym, ap, ◌∙◌, refl, subst, List, ◌++◌, ◌∷◌, [], true}
use Rattle.std.specs.Prelude.{Contains}
use Rattle.std.specs.List.Sorted.{IsPermutation}
use Rattle.ra_stamp.specs.declared.entry.Entry.{Entry}
use Rattle.ra_stamp.specs.declared.entry.Mark.{Mark}
use Rattle.ra_audit.proofs.Matching.{state, is_as, taken_out, mark_matched, mark_kept, mark_forgotten, not_pushed, was_pushed, enters_matched, enters_kept, enters_forgotten, enters_as}
use Rattle.ra_audit.proofs.grant_matcher.GrantMatcher.enter.Goals as goal

pub invariant_of-self : goal.invariant_of-self
invariant_of-self c =
    let i = c.self.inside in
    let m = c.args.mark.now in
    let e = c.args.entry.now in
    let found = subst (λ (xs : List Entry). (c.in-Some.place < length xs) × (get_or xs c.in-Some.place e ≡ e)) c.deref.ensures.value c.in-Some.ensures.found in
    let less = subst (λ (xs : List Entry). IsPermutation i.waiting.items (e ∷ xs)) (sym c.swap_remove.ensures.items)
    (taken_out i.waiting.items c.in-Some.place e c.swap_remove.result found.0 found.1 c.swap_remove.ensures.value) in
    is_as (i.told ++ m ∷ []) _ i.grants.items _ c.swap_remove.new.self.items _ i.left.items _ i.forgot c.tell.ensures.told refl refl refl
    (mark_matched i.told i.grants.items i.waiting.items i.left.items i.forgot c.self.invariant m e c.swap_remove.new.self.items c.requires less)

pub invariant_of-self-then-is_err : goal.invariant_of-self-then-is_err
invariant_of-self-then-is_err c =
    let i = c.self.inside in
    is_as (i.told ++ c.args.mark.now ∷ []) _ i.grants.items _ i.waiting.items _ i.left.items _ true c.tell.ensures.told refl refl
    (not_pushed i.left.items c.push.new.self.items c.args.entry.now c.push.result c.push.ensures.items (sym c.is_err.ensures.value ∙ c.if-is_err.true))
    (mark_forgotten i.told i.grants.items i.waiting.items i.left.items i.forgot c.self.invariant c.args.mark.now c.args.entry.now c.requires)

pub invariant_of-self-else-is_err : goal.invariant_of-self-else-is_err
invariant_of-self-else-is_err c =
    let i = c.self.inside in
    let e = c.args.entry.now in
    is_as (i.told ++ c.args.mark.now ∷ []) _ i.grants.items _ i.waiting.items _ (i.left.items ++ e ∷ []) _ i.forgot c.tell.ensures.told refl refl
    (was_pushed i.left.items c.push.new.self.items e c.push.result c.push.ensures.items (sym c.is_err.ensures.value ∙ c.if-is_err.false))
    (mark_kept i.told i.grants.items i.waiting.items i.left.items i.forgot c.self.invariant c.args.mark.now e c.requires
    (subst (λ (xs : List Entry). Contains xs e → ⊥) c.deref.ensures.value (c.in_default.ensures.absent.0 refl)))

pub returns-in-Some-clause-takes : goal.returns-in-Some-clause-takes
returns-in-Some-clause-takes c =
    let i = c.self.inside in
    let e = c.args.entry.now in
    let waiting = c.swap_remove.new.self.items in
    let told = c.tell.ensures.told ∙ ap (λ (m : Mark). i.told ++ m ∷ []) c.requires in
    let found = subst (λ (xs : List Entry). (c.in-Some.place < length xs) × (get_or xs c.in-Some.place e ≡ e)) c.deref.ensures.value c.in-Some.ensures.found in
    let less = subst (λ (xs : List Entry). IsPermutation i.waiting.items (e ∷ xs)) (sym c.swap_remove.ensures.items)
    (taken_out i.waiting.items c.in-Some.place e c.swap_remove.result found.0 found.1 c.swap_remove.ensures.value) in
    enters_as (state i.told i.grants.items i.waiting.items i.left.items i.forgot) _ _ e c.self.view_is
    (enters_matched (state i.told i.grants.items i.waiting.items i.left.items i.forgot) _ e (c.in-Some.place, found.0, found.1) less
    (ap (λ ts. state ts i.grants.items waiting i.left.items i.forgot) told))

pub returns-then-is_err-clause-takes : goal.returns-then-is_err-clause-takes
returns-then-is_err-clause-takes c =
    let i = c.self.inside in
    let e = c.args.entry.now in
    let told = c.tell.ensures.told ∙ ap (λ (m : Mark). i.told ++ m ∷ []) c.requires in
    let none = subst (λ (xs : List Entry). Contains xs e → ⊥) c.deref.ensures.value (c.in_default.ensures.absent.0 refl) in
    let same = not_pushed i.left.items c.push.new.self.items e c.push.result c.push.ensures.items (sym c.is_err.ensures.value ∙ c.if-is_err.true) in
    enters_as (state i.told i.grants.items i.waiting.items i.left.items i.forgot) _ _ e c.self.view_is
    (enters_forgotten (state i.told i.grants.items i.waiting.items i.left.items i.forgot) _ e none
    (λ j. state (told j) i.grants.items i.waiting.items (same j) true))

pub returns-else-is_err-clause-takes : goal.returns-else-is_err-clause-takes
returns-else-is_err-clause-takes c =
    let i = c.self.inside in
    let e = c.args.entry.now in
    let told = c.tell.ensures.told ∙ ap (λ (m : Mark). i.told ++ m ∷ []) c.requires in
    let none = subst (λ (xs : List Entry). Contains xs e → ⊥) c.deref.ensures.value (c.in_default.ensures.absent.0 refl) in
    let more = was_pushed i.left.items c.push.new.self.items e c.push.result c.push.ensures.items (sym c.is_err.ensures.value ∙ c.if-is_err.false) in
    enters_as (state i.told i.grants.items i.waiting.items i.left.items i.forgot) _ _ e c.self.view_is
    (enters_kept (state i.told i.grants.items i.waiting.items i.left.items i.forgot) _ e none
    (λ j. state (told j) i.grants.items i.waiting.items (more j) i.forgot))
