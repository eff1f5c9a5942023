use Rattle.std.proofs.Common.{◌≡◌, ◌<◌, ◌+◌, ℕ, Bool, true, false, Option, Some, None, length, get_or, refl, sym, ap, ◌∙◌, subst, arith, inl, inr}
use Rattle.std.specs.Prelude.{not, option_map}
use Rattle.std.specs.Option.{option_eq}
use Rattle.std.proofs.lemmas.Bool.{cases_eq, eq-eqb, eqb-true, true≢false, false≢true}
use Rattle.std.proofs.lemmas.List.{get_or_default}
use Rattle.ra_schedule.specs.declared.driver.client_progress.Progress.{Progress}
use Rattle.ra_schedule.specs.Script.{ScriptClient, client_at}
use Rattle.ra_schedule.proofs.driver.drive_script.is_finished.Goals as goal
use Rattle.ra_schedule.proofs.driver.drive_script.is_finished.Goals.{then-report-ne0-via-then-report-ne0, then-report-ne0-via-else-report-ne0+then-report-ne0-2, then-report-ne0-via-else-report-ne0+else-report-ne0-2+then-report-ne0-3}

-- what is not false is true
not_not : (b : Bool) → not b ≡ false → b ≡ true
not_not true is = refl
not_not false is = absurd (false≢true (sym is))

-- what does not differ from a number is that number
number_is : (eq : ℕ → ℕ → Bool) → ((m n : ℕ) → eq m n ≡ true → m ≡ n) → (found : Option ℕ) (n : ℕ) → not (option_eq eq found (Some n)) ≡ false → found ≡ Some n
number_is eq same (Some m) n is = ap (λ (k : ℕ). Some k) (same m n (not_not _ is))
number_is eq same None n is = absurd (true≢false is)

pub loop-place-preserved : goal.loop-place-preserved
loop-place-preserved c k d less =
    let script = c.args.script.now in
    let clients = c.args.clients.now in
    let place = c.loop-place.place in
    let within : place < length clients = omega (arith, c.loop-place-test.true, c.clients-place-end.ensures.value, c.requires) in
    let here = sym c.ops_of.ensures.value ∙ number_is _ eqb-true _ _ (sym c.ne.ensures ∙ c.if-ne.false) in
    elim (cases_eq k place) [
      | inl same ↦
          subst (λ (i : ℕ). option_map (λ (who : ScriptClient). length who.ops) (client_at script (i + 1)) ≡ Some (get_or clients i d).done) (sym same)
          (here ∙ ap (λ (p : Progress). Some p.done) (get_or_default clients place (record { done = 0; waiting = false }) d within))
      | inr apart ↦ c.loop-place.invariant k d (omega (arith, less, apart))
    ]

-- what is that number does not differ from it
not_same : (eq : ℕ → ℕ → Bool) → ((k : ℕ) → eq k k ≡ true) → (found : Option ℕ) (n : ℕ) → found ≡ Some n → not (option_eq eq found (Some n)) ≡ true → ⊥
not_same eq same (Some m) n is differs = let one : m ≡ n = cc in false≢true (sym (ap not (same n)) ∙ subst (λ (k : ℕ). not (eq k n) ≡ true) one differs)
not_same eq same None n is differs = absurd cc

pub returns-then-report-ne0 : goal.returns-then-report-ne0
returns-then-report-ne0 c = (
  λ yes. absurd (false≢true yes),
  λ all.
      let (none_waits, none_queued, none_under_way, done) = all in
      absurd (elim c.then-report-ne0.branch [
        | then-report-ne0-via-then-report-ne0 w ↦ w.if-report-ne0.true none_waits
        | then-report-ne0-via-else-report-ne0+then-report-ne0-2 w ↦ w.if-report-ne0-2.true none_queued
        | then-report-ne0-via-else-report-ne0+else-report-ne0-2+then-report-ne0-3 w ↦ w.if-report-ne0-3.true none_under_way
      ]),
)

pub returns-then-ne : goal.returns-then-ne
returns-then-ne c = (
  λ yes. absurd (false≢true yes),
  λ all.
      let (none_waits, none_queued, none_under_way, done) = all in
      let place = c.loop-place.place in
      let within : place < length c.args.clients.now = omega (arith, c.loop-place-test.true, c.clients-place-end.ensures.value, c.requires) in
      absurd (not_same _ (λ k. eq-eqb k k refl) c.ops_of.result _ (c.ops_of.ensures.value ∙ done place _ within) (sym c.ne.ensures ∙ c.if-ne.true)),
)

pub returns : goal.returns
returns c = (
  λ yes. (
    c.if-report-ne0.false,
    c.if-report-ne0-2.false,
    c.if-report-ne0-3.false,
    λ k d within. c.loop-place.invariant k d (omega (arith, within, c.loop-place-test.false, c.clients-place-end.ensures.value, c.requires)),
  ),
  λ all. refl,
)
