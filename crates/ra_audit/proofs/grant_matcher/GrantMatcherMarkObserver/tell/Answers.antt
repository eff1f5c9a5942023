use Rattle.std.proofs.Common.{◌≡◌, refl, ap, inl, inr, ◌++◌, ◌∷◌, []}
use Rattle.ra_stamp.specs.declared.entry.Mark.{Mark}
use Rattle.ra_audit.specs.Matching.{entered_in}
use Rattle.ra_audit.proofs.Matching.{is_as, mark_passed}
use Rattle.ra_audit.proofs.grant_matcher.GrantMatcherMarkObserver.tell.Goals as goal

-- nothing enters by this mark
pub invariant_of-self : goal.invariant_of-self
invariant_of-self c =
    let i = c.self.inside in
    let m = c.args.mark.now in
    let none : entered_in (m ∷ []) ≡ [] = elim (c.in-Requested.is) [
      | inl requested ↦ ap (λ (x : Mark). entered_in (x ∷ [])) requested.1
      | inr (inl left) ↦ ap (λ (x : Mark). entered_in (x ∷ [])) left.1
      | inr (inr withdrawn) ↦ ap (λ (x : Mark). entered_in (x ∷ [])) withdrawn.1
    ] in
    is_as (i.told ++ m ∷ []) _ i.grants.items _ i.waiting.items _ i.left.items _ i.forgot c.tell.ensures.told refl refl refl
    (mark_passed i.told i.grants.items i.waiting.items i.left.items i.forgot c.self.invariant m none)
