use Rattle.std.proofs.Common.{◌≡◌, ◌+◌, ◌-◌, ◌<◌, ℕ, zero, suc, List, ◌∷◌, length, drop, slice_get, refl, sym, ap, ◌∙◌, arith}
use Rattle.ra_schedule.specs.Enabled.{numbers_from}
use Rattle.ra_schedule.proofs.EnabledFlags.{at_set, at_clear}
use Rattle.ra_schedule.proofs.choice.enabled.Enabled.at.Goals as goal

-- past the first number
past_first : (x : ℕ) (xs : List ℕ) (n : ℕ) → (n ≡ 0 → ⊥) → slice_get (x ∷ xs) n ≡ slice_get xs (n - 1)
past_first x xs zero not = absurd (not refl)
past_first x xs (suc n) not = ap (slice_get xs) (omega arith)

pub loop-place-preserved-then-not-index : goal.loop-place-preserved-then-not-index
loop-place-preserved-then-not-index c =
    let flags = c.args.self.now.flags.items in
    let within : c.loop-place.place < length flags = omega (arith, c.loop-place-test.true, c.clients-place-end.ensures.value, c.requires) in
    c.loop-place.invariant
    ∙ ap (λ (numbers : List ℕ). slice_get numbers c.loop-place.left) (at_clear flags c.loop-place.place _ within (sym c.index.ensures ∙ c.if-not-index.true))

pub returns-then-left-eq0 : goal.returns-then-left-eq0
returns-then-left-eq0 c =
    let flags = c.args.self.now.flags.items in
    let within : c.loop-place.place < length flags = omega (arith, c.loop-place-test.true, c.clients-place-end.ensures.value, c.requires) in
    let here = at_set flags c.loop-place.place _ within (sym c.index.ensures ∙ c.if-not-index.false) in
    sym (c.loop-place.invariant ∙ ap (λ (numbers : List ℕ). slice_get numbers c.loop-place.left) here
    ∙ ap (slice_get ((c.loop-place.place + 1) ∷ numbers_from (c.loop-place.place + 1 + 1) (drop (c.loop-place.place + 1) flags))) c.if-left-eq0.true)

pub loop-place-preserved : goal.loop-place-preserved
loop-place-preserved c =
    let flags = c.args.self.now.flags.items in
    let within : c.loop-place.place < length flags = omega (arith, c.loop-place-test.true, c.clients-place-end.ensures.value, c.requires) in
    let here = at_set flags c.loop-place.place _ within (sym c.index.ensures ∙ c.if-not-index.false) in
    c.loop-place.invariant ∙ ap (λ (numbers : List ℕ). slice_get numbers c.loop-place.left) here ∙ past_first _ _ c.loop-place.left c.if-left-eq0.false
