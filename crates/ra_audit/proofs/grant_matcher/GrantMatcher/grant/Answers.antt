use Rattle.std.proofs.Common.{◌≡◌, ◌<◌, length, get_or, sym, ap, refl, subst, List, ◌++◌, ◌∷◌, []}
use Rattle.std.specs.Prelude.{Contains}
use Rattle.std.specs.List.Sorted.{IsPermutation}
use Rattle.ra_stamp.specs.declared.entry.Entry.{Entry}
use Rattle.ra_audit.specs.Matching.{MatcherState}
use Rattle.ra_audit.proofs.Matching.{state, is_as, taken_out, grant_matched, grant_waits, takes_matched, takes_waiting, takes_as, if_err}
use Rattle.ra_audit.proofs.grant_matcher.GrantMatcher.grant.Goals as goal

pub invariant_of-self : goal.invariant_of-self
invariant_of-self c =
    let i = c.self.inside in
    let g = c.args.grant.now in
    let found = subst (λ (xs : List Entry). (c.in-Some.place < length xs) × (get_or xs c.in-Some.place g.entry ≡ g.entry)) c.deref.ensures.value c.in-Some.ensures.found in
    let less = subst (λ (xs : List Entry). IsPermutation i.left.items (g.entry ∷ xs)) (sym c.swap_remove.ensures.items)
    (taken_out i.left.items c.in-Some.place g.entry c.swap_remove.result found.0 found.1 c.swap_remove.ensures.value) in
    is_as i.told _ (i.grants.items ++ g ∷ []) _ i.waiting.items _ c.swap_remove.new.self.items _ i.forgot refl c.and-self-inside.ensures refl refl
    (grant_matched i.told i.grants.items i.waiting.items i.left.items i.forgot c.self.invariant g c.swap_remove.new.self.items less)

pub invariant_of-self-2 : goal.invariant_of-self-2
invariant_of-self-2 c =
    let i = c.self.inside in
    let g = c.args.grant.now in
    is_as i.told _ (i.grants.items ++ g ∷ []) _ (i.waiting.items ++ g.entry ∷ []) _ i.left.items _ i.forgot refl c.and-self-inside-2.ensures c.in_ok-push.ensures.items refl
    (grant_waits i.told i.grants.items i.waiting.items i.left.items i.forgot c.self.invariant g
    (subst (λ (xs : List Entry). Contains xs g.entry → ⊥) c.deref.ensures.value (c.in_default.ensures.absent.0 refl)))

pub returns-in-Some-clause-takes : goal.returns-in-Some-clause-takes
returns-in-Some-clause-takes c =
    let i = c.self.inside in
    let g = c.args.grant.now in
    let left = c.swap_remove.new.self.items in
    let found = subst (λ (xs : List Entry). (c.in-Some.place < length xs) × (get_or xs c.in-Some.place g.entry ≡ g.entry)) c.deref.ensures.value c.in-Some.ensures.found in
    let less = subst (λ (xs : List Entry). IsPermutation i.left.items (g.entry ∷ xs)) (sym c.swap_remove.ensures.items)
    (taken_out i.left.items c.in-Some.place g.entry c.swap_remove.result found.0 found.1 c.swap_remove.ensures.value) in
    takes_as (state i.told i.grants.items i.waiting.items i.left.items i.forgot) _ _ g c.self.view_is
    (takes_matched (state i.told i.grants.items i.waiting.items i.left.items i.forgot) _ g (c.in-Some.place, found.0, found.1) less
    (ap (λ gs. state i.told gs i.waiting.items left i.forgot) c.and-self-inside.ensures))

pub returns-in_err-push-clause-memory : goal.returns-in_err-push-clause-memory
returns-in_err-push-clause-memory c =
    let e = c.args.grant.now.entry in
    if_err c.from_residual.result
    (subst (λ (s : MatcherState). Contains s.left e → ⊥) c.self.view_is (subst (λ (xs : List Entry). Contains xs e → ⊥) c.deref.ensures.value (c.in_default.ensures.absent.0 refl)))

pub returns-clause-takes : goal.returns-clause-takes
returns-clause-takes c =
    let i = c.self.inside in
    let g = c.args.grant.now in
    let none = subst (λ (xs : List Entry). Contains xs g.entry → ⊥) c.deref.ensures.value (c.in_default.ensures.absent.0 refl) in
    takes_as (state i.told i.grants.items i.waiting.items i.left.items i.forgot) _ _ g c.self.view_is
    (takes_waiting (state i.told i.grants.items i.waiting.items i.left.items i.forgot) _ g none
    (λ j. state i.told (c.and-self-inside-2.ensures j) (c.in_ok-push.ensures.items j) i.left.items i.forgot))
