use Rattle.std.proofs.Common.{◌≡◌, ◌≢◌, ◌+◌, ◌<◌, ℕ, zero, suc, Bool, false, List, length, replicate, refl, sym, ap, ◌∙◌, subst, arith, inl, inr}
use Rattle.std.proofs.lemmas.Bool.{cases_eq}
use Rattle.std.proofs.lemmas.List.{length-replicate}
use Rattle.ra_schedule.specs.Enabled.{IsFlag, numbers_from}
use Rattle.ra_schedule.proofs.choice.enabled.Enabled.of.Goals as goal

-- no flag is set yet
none_set : (first count : ℕ) → 0 ≡ length (numbers_from first (replicate count false))
none_set first zero = refl
none_set first (suc count) = none_set (first + 1) count

pub loop-place-init : goal.loop-place-init
loop-place-init c =
    let clear = c.in_ok-flags.ensures.items_if_clones_equal (λ y same. same) in
    record {
      counted = record {
        one_each = ap length clear ∙ length-replicate _ _ ∙ c.requires.length_is;
        count_is = none_set 1 (length c.args.clients.now) ∙ sym (ap (λ (flags : List Bool). length (numbers_from 1 flags)) clear);
      };
      each = λ k d less. absurd (omega (arith, less));
    }

pub look_at-requires-clause-counted : goal.look_at-requires-clause-counted
look_at-requires-clause-counted c = c.loop-place.invariant.counted

pub loop-place-preserved : goal.loop-place-preserved
loop-place-preserved c =
    let so_far = c.loop-place.invariant in
    let old = c.loop-place.enabled.flags.items in
    let within : c.loop-place.place < length old = omega (arith, so_far.counted.one_each, c.loop-place-test.true, c.clients-place-end.ensures.value) in
    record {
      counted = c.look_at.ensures.counted;
      each = λ k d less.
          elim (cases_eq k c.loop-place.place) [
            | inl last ↦ c.look_at.ensures.this k d (omega (arith, last, within)) (ap (λ (n : ℕ). n + 1) last)
            | inr before ↦
                let apart : k + 1 ≢ c.loop-place.place + 1 = λ same. before (omega (arith, same)) in
                subst (IsFlag c.args.script.now c.args.world.now.moves (k + 1)) (sym (c.look_at.ensures.others k d apart))
                (so_far.each k d (omega (arith, less, before)))
          ];
    }

pub returns-clause-flags : goal.returns-clause-flags
returns-clause-flags c =
    let so_far = c.loop-place.invariant in
    let past = c.loop-place-test.false in
    let end = c.clients-place-end.ensures.value in
    record { length_is = so_far.counted.one_each; each = λ k d within. so_far.each k d (omega (arith, within, so_far.counted.one_each, past, end)) }

pub returns-clause-counted : goal.returns-clause-counted
returns-clause-counted c = c.loop-place.invariant.counted
